-- The values that the control variable of a for statement gets (ISO 7185:1990, 6.8.3.9): the first, and each next one
-- until the last; and how many it had before one of them. It says nothing of types and of what happens at a value.
use Rattle.std.specs.Prelude.{ℕ, ℤ, pos, ◌+ℤ◌, ◌-ℤ◌, int_le, Bool, Option, Some, None, if◌then◌else◌}
use Rattle.std.specs.Ordering.{int_eq}
use Rattle.types.specs.Types.{natural}
use Rattle.typed_tree.specs.declared.tree.Direction.{Direction}
use Rattle.typed_tree.specs.declared.tree.Direction.TheVariants.{To, DownTo}

-- whether there is a value at all, from the bounds
abbrev pub has_values : Direction → ℤ → ℤ → Bool
has_values To first last = int_le first last
has_values DownTo first last = int_le last first

-- the value behind one
abbrev pub next_value : Direction → ℤ → ℤ
next_value To n = n +ℤ pos 1
next_value DownTo n = n -ℤ pos 1

-- the value behind one that isn't the last
abbrev pub value_behind : Direction → ℤ → ℤ → Option ℤ
value_behind direction last n = if int_eq n last then None else Some (next_value direction n)

-- how many values come before one, from the first on
abbrev pub values_before : Direction → ℤ → ℤ → ℕ
values_before To first n = natural (n -ℤ first)
values_before DownTo first n = natural (first -ℤ n)
