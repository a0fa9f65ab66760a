-- Which numbers are members of the sets that the operations give. It does not say what the members stand for.
use Rattle.std.specs.Prelude.{◌≡◌, ◌↔◌, ℕ, ◌<◌, ◌^◌, ℤ, int_le, not, ◌&&◌, ◌||◌, IsTrue, true, false}
use Rattle.std.specs.Ordering.{int_eq}
use Rattle.members.specs.declared.sets.Operator.{Operator}
use Rattle.members.specs.declared.sets.Operator.TheVariants as operator
use Rattle.members.specs.Members.{can_be_member, empty, has, is_inside, is_within, of_one, of_range, of_two}

-- a number stands for a set of numbers from 0 to 127
abbrev pub IsSet : ℕ → Type 0
IsSet set = set < 2 ^ 128

-- sets with the same members are equal
abbrev pub SameMembers : Type 0
SameMembers = (a b : ℕ) → ((n : ℤ) → has a n ≡ has b n) → a ≡ b

-- a member is a number from 0 to 127
abbrev pub CanBe : Type 0
CanBe = (set : ℕ) (n : ℤ) → IsSet set → has set n ≡ true → can_be_member n ≡ true

-- nothing is a member of the empty set
abbrev pub EmptyHas : Type 0
EmptyHas = (n : ℤ) → has empty n ≡ false

-- the members of a union are those of either
abbrev pub UnionHas : Type 0
UnionHas = (a b : ℕ) (n : ℤ) → has (of_two operator.Union a b) n ≡ (has a n || has b n)

-- those of an intersection are those of both
abbrev pub IntersectionHas : Type 0
IntersectionHas = (a b : ℕ) (n : ℤ) → has (of_two operator.Intersection a b) n ≡ (has a n && has b n)

-- those of a difference are those of the first that aren't members of the second
abbrev pub DifferenceHas : Type 0
DifferenceHas = (a b : ℕ) (n : ℤ) → IsSet a → IsSet b
    → has (of_two operator.Difference a b) n ≡ (has a n && not (has b n))

-- those of a range are the numbers from its first to its last that can be members
abbrev pub RangeHas : Type 0
RangeHas = (low high n : ℤ) → has (of_range low high) n ≡ (can_be_member n && (int_le low n && int_le n high))

-- that of the set of one number is this number, if it can be a member
abbrev pub OneHas : Type 0
OneHas = (one n : ℤ) → has (of_one one) n ≡ (can_be_member n && int_eq n one)

-- a set is inside another where each of its members is a member of the other
abbrev pub InsideHas : Type 0
InsideHas = (a b : ℕ) → IsTrue (is_inside a b) ↔ ((n : ℤ) → has a n ≡ true → has b n ≡ true)

-- a set lies in a range where each of its members does
abbrev pub WithinHas : Type 0
WithinHas = (set : ℕ) (low high : ℤ) → IsSet set
    → IsTrue (is_within set low high) ↔ ((n : ℤ) → has set n ≡ true → (int_le low n && int_le n high) ≡ true)

-- what is made of sets is a set
abbrev pub OperatorsStay : Type 0
OperatorsStay = (operator : Operator) (a b : ℕ) → IsSet a → IsSet b → IsSet (of_two operator a b)

abbrev pub RangeStays : Type 0
RangeStays = (low high : ℤ) → IsSet (of_range low high)

abbrev pub OneStays : Type 0
OneStays = (one : ℤ) → IsSet (of_one one)
