-- Ranges of whole numbers: their members, their order, their join and meet, and the ranges of the operators of integer
-- and Boolean (ISO 7185:1990, 6.7.2.2, 6.7.2.3) and of abs and sqr (6.6.6.2), here over all whole numbers.
-- It does not say which ranges a type has, nor what an operation of a program does outside integer.
use Rattle.std.specs.Prelude.{◌≡◌, ◌⊎◌, Bool, true, false, ◌||◌, ◌&&◌, not, if◌then◌else◌, ℤ, pos, ◌+ℤ◌, ◌-ℤ◌, ◌*ℤ◌}
use Rattle.std.specs.Prelude.{neg_ℤ, ◌≤ℤ◌, ◌<ℤ◌, int_lt, int_le, int_div}
use Rattle.std.specs.Int.{int_min, int_max}
use Rattle.std.specs.Ordering.{int_eq}

-- the whole numbers from a first to a last one
pub record Interval : Type 0 where
  pub first : ℤ
  pub last : ℤ

-- a number lies in a range
abbrev pub HasMember : Interval → ℤ → Type 0
HasMember a z = (a.first ≤ℤ z) × (z ≤ℤ a.last)

-- the same as a test
abbrev pub has_number : Interval → ℤ → Bool
has_number a z = int_le a.first z && int_le z a.last

-- the outer range has each number of the inner one
abbrev pub Includes : Interval → Interval → Type 0
Includes outer inner = (z : ℤ) → HasMember inner z → HasMember outer z

-- the range without a number
abbrev pub vacant : Interval
vacant = record { first = pos 1; last = pos 0 }

-- a range has no number
abbrev pub is_vacant : Interval → Bool
is_vacant a = int_lt a.last a.first

-- a range without a number is written as the vacant one
abbrev pub IsPlain : Interval → Type 0
IsPlain a = (a ≡ vacant) ⊎ (is_vacant a ≡ false)

-- each number of a is one of b
abbrev pub is_included : Interval → Interval → Bool
is_included a b = is_vacant a || (int_le b.first a.first && int_le a.last b.last)

-- the least range that includes both
abbrev pub joined : Interval → Interval → Interval
joined a b =
    if is_vacant a then b
    else (if is_vacant b then a else record { first = int_min a.first b.first; last = int_max a.last b.last })

-- the range from a first to a last number
abbrev pub between : ℤ → ℤ → Interval
between first last = if int_lt last first then vacant else record { first = first; last = last }

-- the numbers that both have
abbrev pub common : Interval → Interval → Interval
common a b = between (int_max a.first b.first) (int_min a.last b.last)

-- the sums of a number of each
abbrev pub sum : Interval → Interval → Interval
sum a b =
    if is_vacant a || is_vacant b then vacant
    else record { first = a.first +ℤ b.first; last = a.last +ℤ b.last }

-- the differences of a number of each
abbrev pub difference : Interval → Interval → Interval
difference a b =
    if is_vacant a || is_vacant b then vacant
    else record { first = a.first -ℤ b.last; last = a.last -ℤ b.first }

-- the negatives
abbrev pub negated : Interval → Interval
negated a = if is_vacant a then vacant else record { first = neg_ℤ a.last; last = neg_ℤ a.first }

-- the least range that has four numbers
abbrev pub extent : ℤ → ℤ → ℤ → ℤ → Interval
extent p q r s = record { first = int_min (int_min p q) (int_min r s); last = int_max (int_max p q) (int_max r s) }

-- the products of a number of each
abbrev pub product : Interval → Interval → Interval
product a b =
    if is_vacant a || is_vacant b then vacant
    else extent (a.first *ℤ b.first) (a.first *ℤ b.last) (a.last *ℤ b.first) (a.last *ℤ b.last)

-- the absolute value of a number
abbrev pub magnitude : ℤ → ℤ
magnitude z = int_max z (neg_ℤ z)

-- the greatest magnitude in a range
abbrev pub size : Interval → ℤ
size a = int_max (magnitude a.first) (magnitude a.last)

-- the squares
abbrev pub squared : Interval → Interval
squared a =
    if is_vacant a then vacant
    else (if has_number a (pos 0) then record { first = pos 0; last = size a *ℤ size a }
    else record
    { first = int_min (a.first *ℤ a.first) (a.last *ℤ a.last); last = int_max (a.first *ℤ a.first) (a.last *ℤ a.last) })

-- the absolute values
abbrev pub absolute : Interval → Interval
absolute a =
    if is_vacant a then vacant
    else (if has_number a (pos 0) then record { first = pos 0; last = size a }
    else record { first = int_min (magnitude a.first) (magnitude a.last); last = size a })

-- the numbers of a range, an end that is 0 cut off
abbrev pub without_zero_end : Interval → Interval
without_zero_end a =
    between
    (if int_eq a.first (pos 0) then pos 1 else a.first)
    (if int_eq a.last (pos 0) then neg_ℤ (pos 1) else a.last)

-- the numbers of a range from n on
abbrev pub at_least : ℤ → Interval → Interval
at_least n a = between (int_max n a.first) a.last

-- the numbers of a range up to n
abbrev pub at_most : ℤ → Interval → Interval
at_most n a = between a.first (int_min n a.last)

-- the quotients of a number of a by one of b that isn't 0; div cuts toward zero
abbrev pub quotient : Interval → Interval → Interval
quotient a b =
    if is_vacant a || is_vacant b then vacant
    else (if has_number b (pos 0) then record { first = neg_ℤ (size a); last = size a }
    else extent (int_div a.first b.first) (int_div a.first b.last) (int_div a.last b.first) (int_div a.last b.last))

-- the remainders of a number of a by one of b that is at least 1: none is negative, nor greater than a dividend that
-- isn't
abbrev pub remainder : Interval → Interval → Interval
remainder a b =
    if is_vacant a || is_vacant b then vacant
    else between (pos 0) (if int_le (pos 0) a.first then int_min (b.last -ℤ pos 1) a.last else b.last -ℤ pos 1)

-- the ordinal number of a truth value (6.4.2.2)
abbrev pub truth : Bool → ℤ
truth true = pos 1
truth false = pos 0

-- the truth value of a number: 0 alone is false
abbrev pub is_true : ℤ → Bool
is_true n = not (int_eq n (pos 0))

-- the range of the ordinal numbers of truth values
abbrev pub truth_values : Interval
truth_values = record { first = pos 0; last = pos 1 }

-- no number of a range is false
abbrev pub always_true : Interval → Bool
always_true a = not (has_number a (pos 0))

-- no number but 0 lies in a range
abbrev pub never_true : Interval → Bool
never_true a = int_eq a.first (pos 0) && int_eq a.last (pos 0)

-- the range of truth values from a first to a last one
abbrev pub truths : Bool → Bool → Interval
truths first last = record { first = truth first; last = truth last }

-- what and gives for a number of each
abbrev pub both : Interval → Interval → Interval
both a b =
    if is_vacant a || is_vacant b then vacant
    else truths (always_true a && always_true b) (not (never_true a || never_true b))

-- what or gives for a number of each
abbrev pub either : Interval → Interval → Interval
either a b =
    if is_vacant a || is_vacant b then vacant
    else truths (always_true a || always_true b) (not (never_true a && never_true b))

-- what not gives for a number of a range
abbrev pub complement : Interval → Interval
complement a = if is_vacant a then vacant else truths (never_true a) (not (always_true a))

-- the greatest end that an interval of the program has
abbrev pub limit : ℤ
limit = pos 4611686018427387903

-- a number that may be an end of an interval of the program
abbrev pub IsEnd : ℤ → Type 0
IsEnd z = (neg_ℤ limit ≤ℤ z) × (z ≤ℤ limit)

-- the end nearest to a number
abbrev pub nearest_end : ℤ → ℤ
nearest_end z = int_max (int_min z limit) (neg_ℤ limit)

-- the range with each end beyond the greatest or the least held there
abbrev pub held : Interval → Interval
held a = record { first = nearest_end a.first; last = nearest_end a.last }

-- the ends of a range with numbers are nearer to 0 than the greatest
abbrev pub IsInner : Interval → Type 0
IsInner a = (neg_ℤ limit <ℤ a.first) × (a.first ≤ℤ a.last) × (a.last <ℤ limit)
