-- Code whose calls lead to numbers of blocks, in place of the places of their code. It does not say where blocks stand.
use Rattle.std.specs.Prelude.{ℕ, List, Option, Some, None, slice_get}
use Rattle.pcode_assembler.specs.declared.instr.Instr.{Instr}
use Rattle.pcode_assembler.specs.declared.instr.Instr.TheVariants as instr

-- an instruction, where a call leads somewhere else
abbrev pub with_call : (ℕ → ℕ) → Instr → Instr
with_call places (instr.CallProcedure length target) = instr.CallProcedure length (places target)
with_call places other = other

-- the place of a block of a number
abbrev pub place_or_none : Option ℕ → ℕ
place_or_none None = 0
place_or_none (Some place) = place

abbrev pub place_in : List ℕ → ℕ → ℕ
place_in places number = place_or_none (slice_get places number)
