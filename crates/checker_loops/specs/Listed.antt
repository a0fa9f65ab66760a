-- Root numbers as they are listed, and in ascending order. It does not say what is listed.
use Rattle.std.specs.Prelude.{ℕ, ◌≡◌, ◌≤◌, ◌<◌, List, get_or, length}
use Rattle.checker_state.specs.Loops.{is_among}

-- two lists have the same numbers
abbrev pub AreSame : (listed other : List ℕ) → Type 0
AreSame listed other = (root : ℕ) → is_among root other ≡ is_among root listed

-- no number comes before a smaller one
abbrev pub Ascends : List ℕ → Type 0
Ascends numbers = (i j : ℕ) → i ≤ j → j < length numbers → get_or numbers i 0 ≤ get_or numbers j 0
