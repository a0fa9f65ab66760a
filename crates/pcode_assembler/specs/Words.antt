-- The operands of a code's text: how numbers and sets are spelled, and which a word spells. It does not say which
-- operands an instruction has.
use Rattle.std.specs.Prelude.{ℕ, zero, suc, ◌+◌, ◌*◌, ◌-◌, ◌/◌, ◌%◌, ℤ, pos, negsuc, Bool, nat_eq, nat_lt}
use Rattle.std.specs.Prelude.{nat_le, ◌&&◌, ◌||◌, if◌then◌else◌, List, [], ◌∷◌, ◌++◌, length}
use Rattle.std.specs.Prelude.{fold, Option, Some, None, codes}
use Rattle.std.specs.List.{list_all}
use Rattle.std.specs.Option.{option_and_then, option_map, option_zip}
use Rattle.text_lines.specs.Numerals.{natural}
use Rattle.text_lines.specs.Words.{behind, parted}

-- ---- numbers

-- a number that is at least 1
abbrev pub from_one : Option ℕ → Option ℕ
from_one None = None
from_one (Some zero) = None
from_one (Some (suc n)) = Some (suc n)

abbrev pub positive : ℕ → List ℕ → Option ℕ
positive limit word = from_one (natural limit word)

-- the negative of a number, which 0 hasn't
abbrev pub negative_of : Option ℕ → Option ℤ
negative_of None = None
negative_of (Some zero) = None
negative_of (Some (suc n)) = Some (negsuc n)

-- a number of 32 bits without a minus, and behind one
abbrev pub magnitude : List ℕ → Option ℤ
magnitude digits = option_map pos (natural 2147483647 digits)

abbrev pub negated : List ℕ → Option ℤ
negated digits = negative_of (natural 2147483648 digits)

abbrev pub signed : Option (List ℕ) → List ℕ → Option ℤ
signed None word = magnitude word
signed (Some digits) word = negated digits

-- the number of 32 bits that a word spells
abbrev pub number : List ℕ → Option ℤ
number word = signed (behind (codes "-") word) word

-- ---- sets

-- the hexadecimal digit of a value, in lower case
abbrev pub hexadecimal_digit : ℕ → ℕ
hexadecimal_digit value = if nat_lt value 10 then 48 + value else 87 + value

-- so many digits of a number, its least ones
unfoldable pub hexadecimal_digits : (count : ℕ) → ℕ → List ℕ
hexadecimal_digits zero number = []
hexadecimal_digits (suc count) number = hexadecimal_digits count (number / 16) ++ hexadecimal_digit (number % 16) ∷ []

-- a set, by a number that has a bit for each member: the first digit is that of members 127 to 124
abbrev pub set_digits : ℕ → List ℕ
set_digits members = hexadecimal_digits 32 members

abbrev pub is_hexadecimal : ℕ → Bool
is_hexadecimal digit = (nat_le 48 digit && nat_le digit 57) || (nat_le 97 digit && nat_le digit 102)

-- the value of a hexadecimal digit
abbrev pub nibble_of : ℕ → ℕ
nibble_of digit = if nat_lt digit 97 then digit - 48 else digit - 97 + 10

abbrev pub hexadecimal_value : List ℕ → ℕ
hexadecimal_value digits = fold (λ value digit. value * 16 + nibble_of digit) 0 digits

-- the set that a word spells
abbrev pub members : List ℕ → Option ℕ
members word = if nat_eq (length word) 32 && list_all is_hexadecimal word then Some (hexadecimal_value word) else None

-- ---- two operands

-- two operands, parted by a blank
abbrev pub both : {A B : Type 0} → (List ℕ → Option A) → (List ℕ → Option B) → List ℕ → Option (A × B)
both first second words = option_and_then (λ parts. option_zip (first parts.0) (second parts.1)) (parted words)
