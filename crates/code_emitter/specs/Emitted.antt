-- The list of a code that grows: its instructions, or why there are none; and what it gets, behind what is there. It
-- does not say when memory runs out.
use Rattle.std.specs.Prelude.{◌≡◌, ℕ, Bool, true, false, ◌||◌, nat_lt, List, [], ◌∷◌, ◌++◌, length, slice_set}
use Rattle.std.specs.Prelude.{Option, Some, None, Result, Ok, Err}
use Rattle.pcode_assembler.specs.declared.instr.Instr.{Instr}
use Rattle.code_emitter.specs.declared.emitter.Loss.{Loss}
use Rattle.code_emitter.specs.declared.emitter.Loss.TheVariants.{Memory, TooLarge}

-- what is seen of it
abbrev pub Seen : Type 0
Seen = Result (List Instr) Loss

abbrev pub seen : List Instr → Option Loss → Seen
seen code None = Ok code
seen code (Some loss) = Err loss

-- a loss that the code itself has brought
abbrev pub is_large : Loss → Bool
is_large (Memory _) = false
is_large TooLarge = true

-- it isn't lost
abbrev pub IsKept : Seen → Type 0
IsKept (Ok code) = Unit {0}
IsKept (Err loss) = ⊥

-- the place of the next instruction
abbrev pub place_of : Seen → ℕ
place_of (Ok code) = length code
place_of (Err loss) = 0

-- it, with another instruction at a place, and at some places
abbrev pub with_instr : ℕ → Instr → Seen → Seen
with_instr place i (Ok code) = Ok (slice_set code place i)
with_instr place i (Err loss) = Err loss

abbrev pub with_each : List ℕ → Instr → Seen → Seen
with_each [] i seen = seen
with_each (place ∷ places) i seen = with_each places i (with_instr place i seen)

-- it has this code; or it was lost, where the code has too many instructions or is too large for another reason, and
-- maybe for want of memory anywhere
abbrev pub HasCode : Bool → Seen → List Instr → Type 0
HasCode large (Ok code) whole = (code ≡ whole) × (large ≡ false)
HasCode large (Err (Memory _)) whole = Unit {0}
HasCode large (Err TooLarge) whole = (nat_lt 1000000 (length whole) || large) ≡ true

abbrev pub HasMore : Bool → Seen → Seen → List Instr → Type 0
HasMore large (Ok code) after piece = HasCode large after (code ++ piece)
HasMore large (Err loss) after piece = after ≡ Err loss

-- it gets this piece, which may be too large for another reason; a lost one stays as it is
pub record Grows (large : Bool) (before after : Seen) (piece : List Instr) : Type 0 where
  pub more : HasMore large before after piece

-- the same, where it is too large by the number of its instructions alone
abbrev pub Gets : Seen → Seen → List Instr → Type 0
Gets before after piece = Grows false before after piece
