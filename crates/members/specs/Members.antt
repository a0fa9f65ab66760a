-- Sets of whole numbers from 0 to 127, each as one number of 128 bits. Sets are equal where these numbers are. It does
-- not say what the members stand for; which numbers are members of what is made of sets is told in Laws.
use Rattle.std.specs.Prelude.{ℕ, ◌+◌, ◌-◌, ◌^◌, ◌==◌, ℤ, pos, negsuc, int_le, int_lt, min, not, ◌&&◌, ◌||◌, Bool, false}
use Rattle.std.specs.Prelude.{bit_and, bit_or}
use Rattle.std.specs.Int.{w128, bit_at, bit_not}
use Rattle.members.specs.declared.sets.Operator.{Operator}
use Rattle.members.specs.declared.sets.Operator.TheVariants as operator
use Rattle.members.specs.declared.sets.Relation.{Relation}
use Rattle.members.specs.declared.sets.Relation.TheVariants as relation

-- whether the bit at a place is 1
abbrev pub has_place : ℕ → ℕ → Bool
has_place set place = bit_at set place == 1

-- whether a number is a member of a set
abbrev pub has : ℕ → ℤ → Bool
has set (pos n) = has_place set n
has set (negsuc n) = false

-- whether a number can be a member
abbrev pub can_be_member : ℤ → Bool
can_be_member n = int_le (pos 0) n && int_le n (pos 127)

-- the set without members
abbrev pub empty : ℕ
empty = 0

-- the members of either set, of both, and of the first alone (ISO 7185:1990, 6.7.2.4)
abbrev pub of_two : Operator → ℕ → ℕ → ℕ
of_two operator.Union a b = bit_or a b
of_two operator.Intersection a b = bit_and a b
of_two operator.Difference a b = bit_and a (bit_not w128 b)

-- whether each member of a set is a member of another: they have no fewer in common than the first has
abbrev pub is_inside : ℕ → ℕ → Bool
is_inside a b = bit_and a b == a

-- whether one set stands so to another (ISO 7185:1990, 6.7.2.5)
abbrev pub stand : Relation → ℕ → ℕ → Bool
stand relation.Equal a b = a == b
stand relation.NotEqual a b = not (a == b)
stand relation.Inside a b = is_inside a b
stand relation.Around a b = is_inside b a

-- how many numbers below this one can be members
abbrev pub count_below : ℤ → ℕ
count_below (pos n) = min n 128
count_below (negsuc n) = 0

-- how many numbers up to this one can be members
abbrev pub count_to : ℤ → ℕ
count_to (pos n) = min (n + 1) 128
count_to (negsuc n) = 0

-- the set of the numbers from one to another that can be members, empty where the second is the less: a bit for each
-- place from that of the first to that of the second
abbrev pub of_range : ℤ → ℤ → ℕ
of_range low high = 2 ^ count_to high - 2 ^ count_below low

-- the set of one number, empty where it can't be a member
abbrev pub of_one : ℤ → ℕ
of_one n = of_range n n

-- whether each member of a set lies in a range
abbrev pub is_within : ℕ → ℤ → ℤ → Bool
is_within set low high = is_inside set (of_range low high)

-- whether a range has no members, or its first and its last can both be members
abbrev pub range_fits : ℤ → ℤ → Bool
range_fits low high = int_lt high low || (can_be_member low && can_be_member high)
