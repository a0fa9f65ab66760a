-- Bounds as they stand in tests, read from the program: a number, or a variable plus one, which may be none that bounds
-- have; and how great such numbers are. It does not say what a test tells.
use Rattle.std.specs.Prelude.{ℕ, ℤ, pos, neg_ℤ, ◌≤ℤ◌, Option}
use Rattle.checker_state.specs.Bounds.{Bound}

-- the bound of a variable, if there is one, and a number
abbrev pub bound_of_parts : Option ℕ → ℤ → Bound
bound_of_parts root number = record { root = root; number = number }

-- a number lies between another and its negative
abbrev pub IsWithin : ℤ → ℤ → Type 0
IsWithin limit number = (neg_ℤ limit ≤ℤ number) × (number ≤ℤ limit)

-- a number to which those of 32 bits were added a few times, and one to which one more may be
abbrev pub IsShort : ℤ → Type 0
IsShort number = IsWithin (pos 8589934592) number

abbrev pub IsShorter : ℤ → Type 0
IsShorter number = IsWithin (pos 6442450944) number

-- a number that is far from the greatest of 64 bits
abbrev pub IsNear : ℤ → Type 0
IsNear z = IsWithin (pos 4611686035607257088) z

-- a number from which those of 32 bits lead to none beyond 64 bits
abbrev pub IsFar : ℤ → Type 0
IsFar z = IsWithin (pos 9223372032559808511) z
