-- Texts without the bytes that end words and lines.
use Rattle.std.proofs.Common.{◌≡◌, ℕ, ◌<◌, Bool, true, nat_lt, List, [], ◌∷◌, ◌++◌}
use Rattle.std.specs.List.{list_all}
use Rattle.std.proofs.lemmas.Bool.{and_from, and_parts, lt-ltb}

-- each byte of a text is above a limit
abbrev pub are_above : ℕ → List ℕ → Bool
are_above limit text = list_all (nat_lt limit) text

pub above_append : (limit : ℕ) (front back : List ℕ) → are_above limit front ≡ true → are_above limit back ≡ true → are_above limit (front ++ back) ≡ true
above_append limit [] back f b = b
above_append limit (byte ∷ front) back f b =
    let parts = and_parts (nat_lt limit byte) _ f in and_from _ _ parts.0 (above_append limit front back parts.1 b)

pub byte_above : (limit byte : ℕ) → limit < byte → nat_lt limit byte ≡ true
byte_above limit byte low = lt-ltb limit byte low
