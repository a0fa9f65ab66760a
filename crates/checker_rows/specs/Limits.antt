-- The values of the types of variables, and of the components of rows (ISO 7185:1990, 6.4.2), or those that the members
-- of sets may have (6.4.3.4). It does not say that they have such values.
use Rattle.std.specs.Prelude.{ℕ, neg_ℤ, List, Option, Some, None}
use Rattle.types.specs.declared.form.OrdinalRange.{OrdinalRange}
use Rattle.domain.specs.Interval.{Interval, common}
use Rattle.meaning.specs.Integers.{maxint}
use Rattle.checker_rows.specs.Rows.{Row, values_at}

-- the values of the type integer (6.4.2.2)
abbrev pub integer : Interval
integer = record { first = neg_ℤ maxint; last = maxint }

-- the values of a type, which are integers
abbrev pub limits_of : OrdinalRange → Interval
limits_of range = common integer (record { first = range.first; last = range.last })

-- the values of a type; those of integer, where the tree doesn't tell it
abbrev pub limits_or_integer : Option OrdinalRange → Interval
limits_or_integer None = integer
limits_or_integer (Some range) = limits_of range

-- the values of the type of a row's components, or those of the members of its sets
abbrev pub row_limits : List Row → ℕ → Interval
row_limits rows row = limits_or_integer (values_at rows row)
