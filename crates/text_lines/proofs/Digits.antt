-- A number and its digits.
use Rattle.std.proofs.Common.{rules, ◌≡◌, ℕ, suc, zero, ◌+◌, ◌*◌, ◌-◌, ◌^◌, ◌<◌, ◌≤◌, Bool, true, false, nat_eq, nat_lt, ◌==◌, List, [], ◌∷◌, length, take}
use Rattle.std.proofs.Common.{fold, get_or, Some, None, refl, sym, ap, ◌∙◌, arith, decimal}
use Rattle.std.specs.Bool.{if◌then◌else◌}
use Rattle.std.specs.List.{list_all}
use Rattle.std.specs.Char.{is_ascii_digit}
use Rattle.std.proofs.lemmas.Bool.{and_from, and_parts, eqb-true, eqb-false, ne_eqb}
use Rattle.std.proofs.lemmas.Bool.Decides.{nat_tests}
use Rattle.std.proofs.lemmas.Fmt.{decimal_digit, digits_decimal, digits_value-decimal, decimal-digits_value, decimal_nonempty, first_decimal}
use Rattle.std.proofs.lemmas.Str.Parse.{IsNumeralModel, numerals_by_fold}
use Rattle.text_lines.specs.Numerals.{is_number, natural, value_of, value_up_to}
use Rattle.text_lines.specs.Words.{behind}
use Rattle.text_lines.proofs.Bytes.{are_above}
use Rattle.text_lines.proofs.Parting.{no_first, some_is}

abbrev value_after : ℕ → List ℕ → ℕ
value_after n digits = fold (λ value digit. value * 10 + (digit - 48)) n digits

pub own : IsNumeralModel (λ digits. list_all is_ascii_digit digits ≡ true) (value_after 0)
own = numerals_by_fold _ (search rules) value_after (search rules)

-- ---- the value of digits

grows : (xs : List ℕ) (v : ℕ) → v ≤ value_after v xs
grows [] v = omega arith
grows (x ∷ xs) v = let h = grows xs (v * 10 + (x - 48)) in omega arith

front_from : (xs : List ℕ) (n v : ℕ) → value_after v (take n xs) ≤ value_after v xs
front_from [] zero v = grows [] v
front_from [] (suc n) v = grows [] v
front_from (x ∷ xs) zero v = grows (x ∷ xs) v
front_from (x ∷ xs) (suc n) v = front_from xs n (v * 10 + (x - 48))

-- the value of some of the digits is at most that of all
pub value_of_front : (xs : List ℕ) (n : ℕ) → value_of (take n xs) ≤ value_of xs
value_of_front xs n = front_from xs n 0

lt_true : (m n : ℕ) → m < n → nat_lt m n ≡ true
lt_true m n h = grind (arith, nat_tests)

pub value_above : (limit : ℕ) (digits : List ℕ) → limit < value_of digits → None ≡ value_up_to limit digits
value_above limit digits h = rw (lt_true limit (value_of digits) h) refl

-- ---- what is read is spelled so

number_first : (first : ℕ) (more : List ℕ) (zero_first : Bool) → first == 48 ≡ zero_first
    → (if zero_first then nat_eq (length more) 0 else list_all is_ascii_digit (first ∷ more)) ≡ true
    → (list_all is_ascii_digit (first ∷ more) ≡ true) × (first ≡ 48 → length (first ∷ more) ≡ 1)
number_first first [] true is number = (rw (eqb-true first 48 is) refl, λ _. refl)
number_first first (next ∷ more) true is number = absurd (omega (arith, eqb-true _ _ number))
number_first first more false is number = (number, λ same. absurd (eqb-false first 48 is same))

number_parts : (word : List ℕ) → is_number word ≡ true
    → (list_all is_ascii_digit word ≡ true) × (0 < length word) × (get_or word 0 0 ≡ 48 → length word ≡ 1)
number_parts [] is = absurd cc
number_parts (first ∷ more) is =
    let parts = number_first first more (first == 48) refl is in (parts.0, omega arith, parts.1)

value_limit : (limit value : ℕ) (above : Bool) (n : ℕ) → nat_lt limit value ≡ above
    → (if above then None else Some value) ≡ Some n → (value ≡ n) × (value ≤ limit)
value_limit limit value true n is e = absurd cc
value_limit limit value false n is e = (some_is value n e, grind (arith, nat_tests))

natural-number : (limit : ℕ) (word : List ℕ) (number : Bool) (n : ℕ) → is_number word ≡ number
    → (if number then value_up_to limit word else None) ≡ Some n → limit < 2 ^ 64 → (word ≡ decimal n) × (n ≤ limit)
natural-number limit word true n is e small =
    let found = value_limit limit (value_of word) (nat_lt limit (value_of word)) n refl e in
    let parts = number_parts word is in
    let spelled = decimal-digits_value own word parts.0 parts.1 parts.2 (omega (arith, found.1)) in
    (sym spelled ∙ ap decimal found.0, omega (arith, found.0, found.1))
natural-number limit word false n is e small = absurd cc

pub natural-spelled : (limit : ℕ) (word : List ℕ) (n : ℕ) → natural limit word ≡ Some n → limit < 2 ^ 64
    → (word ≡ decimal n) × (n ≤ limit)
natural-spelled limit word n e small = natural-number limit word (is_number word) n refl e small

-- ---- what is spelled so is read

list_first : (word : List ℕ) → 0 < length word → list_all is_ascii_digit word ≡ true → 48 < get_or word 0 0 → is_number word ≡ true
list_first [] some digits above = absurd (omega arith)
list_first (first ∷ more) some digits above = rw (ne_eqb first 48 (λ same. absurd (omega (arith, same, above)))) digits

pub decimal-is_number : (n : ℕ) → n < 2 ^ 64 → is_number (decimal n) ≡ true
decimal-is_number zero small = rw (decimal_digit 0 (omega arith)) refl
decimal-is_number (suc n) small =
    list_first (decimal (suc n)) (decimal_nonempty (suc n) small) (digits_decimal own (suc n) small) (first_decimal (suc n) (omega arith) small)

within : (limit n : ℕ) → n ≤ limit → nat_lt limit n ≡ false
within limit n h = grind (arith, nat_tests)

pub natural-again : (limit n : ℕ) → n ≤ limit → n < 2 ^ 64 → natural limit (decimal n) ≡ Some n
natural-again limit n fits small =
    rw (decimal-is_number n small, digits_value-decimal own n small, within limit n fits) refl

-- ---- the bytes of numbers

-- a number begins with no other byte than a digit
pub no_beginning : (byte n : ℕ) → is_ascii_digit byte ≡ false → n < 2 ^ 64 → behind (byte ∷ []) (decimal n) ≡ None
no_beginning byte n other small = no_first byte (decimal n) other (decimal_nonempty n small) (digits_decimal own n small)

digit_above : (limit byte : ℕ) → limit < 48 → is_ascii_digit byte ≡ true → nat_lt limit byte ≡ true
digit_above limit byte low digit = grind (arith, nat_tests)

digits_above : (limit : ℕ) (word : List ℕ) → limit < 48 → list_all is_ascii_digit word ≡ true → are_above limit word ≡ true
digits_above limit [] low digits = refl
digits_above limit (byte ∷ more) low digits =
    let parts = and_parts (is_ascii_digit byte) _ digits in
    and_from _ _ (digit_above limit byte low parts.0) (digits_above limit more low parts.1)

pub decimal_above : (limit n : ℕ) → limit < 48 → n < 2 ^ 64 → are_above limit (decimal n) ≡ true
decimal_above limit n low small = digits_above limit (decimal n) low (digits_decimal own n small)
