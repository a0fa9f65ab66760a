-- Bounds of a certificate and of the checker: a number, or the value of a variable plus a number (ISO 7185:1990,
-- 6.5.1); what is known of one by another with the same variable, or with none; and how they stand in the order of
-- facts. It does not say which value a variable has.
use Rattle.std.specs.Prelude.{ℕ, ℤ, ◌+ℤ◌, int_le, Bool, true, false, ◌&&◌, Option, Some, None, if◌then◌else◌, nat_eq}
use Rattle.std.specs.Ordering.{int_cmp, int_eq, nat_cmp, ordering_then}
use Rattle.std.specs.declared.cmp.Ordering.{Ordering}
use Rattle.std.specs.declared.cmp.Ordering.TheVariants.{Less, Equal, Greater}
use Rattle.meaning.specs.Integers.{is_integer_number}

-- the value of a variable, by its root number, if there is one, plus a number
pub record Bound : Type 0 where
  pub root : Option ℕ
  pub number : ℤ

-- a number
abbrev pub constant : ℤ → Bound
constant n = record { root = None; number = n }

-- a variable plus a number
abbrev pub plus : ℕ → ℤ → Bound
plus root n = record { root = Some root; number = n }

-- there is a variable, and it is this one
abbrev pub is_variable : ℕ → Option ℕ → Bool
is_variable root None = false
is_variable root (Some other) = nat_eq root other

-- the same variable, or none
abbrev pub is_same_variable : Option ℕ → Option ℕ → Bool
is_same_variable None None = true
is_same_variable (Some root) other = is_variable root other
is_same_variable one other = false

abbrev pub is_same_bound : Bound → Bound → Bool
is_same_bound a b = is_same_variable a.root b.root && int_eq a.number b.number

-- a bound plus a number, as it stands in a test: no number is too great there
abbrev pub raised_bound : ℤ → Bound → Bound
raised_bound n bound = record bound { number = bound.number +ℤ n }

-- the same, if its number is one that bounds have
abbrev pub moved_bound : ℤ → Bound → Option Bound
moved_bound n bound = if is_integer_number (bound.number +ℤ n) then Some (raised_bound n bound) else None

-- of two bounds of one variable, or of none, the first is at most the second
abbrev pub is_at_most : Bound → Bound → Bool
is_at_most a b = is_same_variable a.root b.root && int_le a.number b.number

-- ---- the order of bounds: numbers before variables

abbrev pub variable_order : Option ℕ → Option ℕ → Ordering
variable_order None None = Equal
variable_order None (Some other) = Less
variable_order (Some root) None = Greater
variable_order (Some root) (Some other) = nat_cmp root other

abbrev pub bound_order : Bound → Bound → Ordering
bound_order a b = ordering_then (variable_order a.root b.root) (int_cmp a.number b.number)
