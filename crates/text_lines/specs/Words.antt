-- The words of a line. It does not say which words there are.
use Rattle.std.specs.Prelude.{ℕ, suc, nat_eq, ◌==◌, if◌then◌else◌, List, length, take, drop, position, Option}
use Rattle.std.specs.Prelude.{Some, None}
use Rattle.std.specs.Cmp.Lexicographic.{pointwise}

-- what stands behind a beginning of a text
abbrev pub behind : List ℕ → List ℕ → Option (List ℕ)
behind word text = if pointwise nat_eq (take (length word) text) word then Some (drop (length word) text) else None

-- a text at a place, without the byte there
abbrev pub parted_at : List ℕ → Option ℕ → Option (List ℕ × List ℕ)
parted_at words None = None
parted_at words (Some end) = Some (take end words, drop (suc end) words)

-- what stands before the first blank, and what stands behind it
abbrev pub parted : List ℕ → Option (List ℕ × List ℕ)
parted words = parted_at words (position (λ byte. byte == 32) words)
