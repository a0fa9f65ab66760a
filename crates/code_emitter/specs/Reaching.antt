-- How code reaches what is accessed (ISO 7185:1990, 6.5.1): a cell of a frame, or the instruction that pushes the
-- address from which the code of the selectors goes on. It does not say what lies there.
use Rattle.std.specs.Prelude.{Option, Some, None, if◌then◌else◌}
use Rattle.pcode_assembler.specs.declared.instr.Instr.{Instr}
use Rattle.pcode_assembler.specs.declared.instr.Instr.TheVariants as instr
use Rattle.typed_tree.specs.declared.tree.Access.{Access}
use Rattle.code_scheme.specs.Code.{At, By, Reached}
use Rattle.code_scheme.specs.Scopes.{Scope, access_home, access_offset, links_to}
use Rattle.code_emitter.specs.declared.access.Cell.{Cell}

-- the cell, where there is one
abbrev pub cell_of : Reached → Option Cell
cell_of (At level start) = Some (record { level = level; offset = start })
cell_of (By address) = None

-- what pushes the address
abbrev pub address_instr : Scope → Access → Instr
address_instr scope access =
    let home = access_home scope access in
    let level = links_to scope home.level in
    if home.refers then instr.Load level home.start else instr.LoadAddress level (access_offset scope access)
