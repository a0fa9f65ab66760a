-- The typing of a program (ISO 7185:1990, 6.2, 6.3, 6.4.1, 6.5.1, 6.10): its declarations in the order of the text, and
-- then its statements. It answers the first broken rule, with its place, or how the program's typed tree looks and what
-- the program has: its variables, its sites and its points. It says nothing of what a program does.
use Rattle.std.specs.Prelude.{ℕ, ◌++◌, List, Option, Some, None, if◌then◌else◌, nat_eq, codes}
use Rattle.std.specs.Cmp.Lexicographic.{pointwise}
use Rattle.syntax_tree.specs.declared.Program.{Program}
use Rattle.syntax_tree.specs.declared.Name.{Name}
use Rattle.scopes.specs.declared.denotation.Denotation.TheVariants as denotes
use Rattle.scopes.specs.declared.denotation.File.{File}
use Rattle.scopes.specs.declared.denotation.File.TheVariants as file
use Rattle.typed_tree.specs.declared.fault.TypeFault.TheVariants as fault
use Rattle.typing.specs.Names.{folded, all_folded}
use Rattle.typing.specs.Passing.{After, Passing, fail, each, ◌>>◌}
use Rattle.typing_rules.specs.Checked.{Checked}
use Rattle.typing.specs.Steps.{begins, open_required, open_block, declare, give_file, program_heading}
use Rattle.typing.specs.Routines.{TypedBlock, block_end, typed_block}

-- the file of a name in small letters
abbrev pub file_of : List ℕ → Option File
file_of name =
    if pointwise nat_eq name (codes "input") then Some file.Input
    else if pointwise nat_eq name (codes "output") then Some file.Output
    else None

-- a program parameter: only files may be
abbrev pub declares_file : Name → Option File → Passing (Unit {0})
declares_file name None = fail (fault.NotProgramParameter name.place)
declares_file name (Some one) = declare name (denotes.File one) >> give_file one

unfoldable pub parameter_of_program : Name → Passing (Unit {0})
parameter_of_program name = declares_file name (file_of (folded name.text.now))

-- the region of the program's block, and its parameters
unfoldable pub parameters_of_program : Program → TypedBlock → Passing (Unit {0})
parameters_of_program program block = do
  open_required
  open_block (all_folded (program.parameters.items ++ block.names))
  each parameter_of_program program.parameters.items

-- a program, by its block
unfoldable pub program_typing : Program → TypedBlock → Passing (Unit {0})
program_typing program block = do
  parameters_of_program program block
  block.typing
  block_end 0 program.name.place block.end program_heading

-- a program
unfoldable pub typing : Program → Checked (After (Unit {0}))
typing program = program_typing program (typed_block program.block) (begins program.name.place)
