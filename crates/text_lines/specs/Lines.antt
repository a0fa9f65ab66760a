-- The lines of a text. It does not say what a line says.
use Rattle.std.specs.Prelude.{ℕ, Bool, true, false, if◌then◌else◌, ◌==◌, List, [], ◌∷◌, ◌++◌}

-- a line of a text: its bytes, and whether byte 10 ends it
pub record Line : Type 0 where
  pub bytes : List ℕ
  pub ended : Bool

-- a line with one more byte at its front, the first of the given lines if there is one
abbrev pub with_front : ℕ → List Line → List Line
with_front byte [] = record { bytes = byte ∷ []; ended = false } ∷ []
with_front byte (line ∷ more) = record { bytes = byte ∷ line.bytes; ended = line.ended } ∷ more

-- the lines of a text: byte 10 ends a line, and what stands behind the last one is a line if it has a byte
abbrev pub lines : List ℕ → List Line
lines [] = []
lines (byte ∷ more) =
    if byte == 10 then record { bytes = []; ended = true } ∷ lines more else with_front byte (lines more)

-- a line with its end
abbrev pub ended : List ℕ → List ℕ
ended line = line ++ 10 ∷ []
