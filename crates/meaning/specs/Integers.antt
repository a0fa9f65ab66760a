-- Type integer (ISO 7185:1990, 6.4.2.2): -maxint to maxint, with maxint 2147483647; and the numbers of truth values.
-- It says nothing of how numbers are kept.
use Rattle.std.specs.Prelude.{ℕ, ℤ, pos, neg_ℤ, Bool, true, false, not, Option, Some, None, if◌then◌else◌, int_le}
use Rattle.std.specs.Prelude.{unsigned_abs}
use Rattle.std.specs.Int.{int_max, int_rem_euclid}
use Rattle.std.specs.Ordering.{int_eq}

-- the largest number of type integer
abbrev pub maxint : ℤ
maxint = pos 2147483647

-- a number from lo to hi
abbrev pub is_within : ℤ → ℤ → ℤ → Bool
is_within lo hi n = if int_le lo n then int_le n hi else false

-- a number of type integer
abbrev pub is_integer_number : ℤ → Bool
is_integer_number n = is_within (neg_ℤ maxint) maxint n

-- the number, if it is of type integer
abbrev pub integer_or_none : ℤ → Option ℤ
integer_or_none n = if is_integer_number n then Some n else None

-- the number of a truth value: false is 0, true is 1 (6.4.2.2)
abbrev pub truth : Bool → ℤ
truth false = pos 0
truth true = pos 1

-- the truth value of a number
abbrev pub is_true : ℤ → Bool
is_true n = not (int_eq n (pos 0))

-- an odd number
abbrev pub is_odd : ℤ → Bool
is_odd n = int_eq (int_rem_euclid n (pos 2)) (pos 1)

-- a number without its sign
abbrev pub magnitude : ℤ → ℤ
magnitude n = int_max n (neg_ℤ n)

-- the byte of a number's lowest 8 bits: the number itself, if it is the code of a character
abbrev pub byte_of : ℤ → ℕ
byte_of n = unsigned_abs (int_rem_euclid n (pos 256))
