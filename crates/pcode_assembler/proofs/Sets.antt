-- Sets as they are spelled and read.
use Rattle.std.proofs.Common.{◌≡◌, ℕ, suc, zero, ◌+◌, ◌*◌, ◌-◌, ◌/◌, ◌%◌, ◌^◌, ◌<◌, ◌≤◌, Bool, true, false, ◌&&◌, nat_lt, nat_eq, List, [], ◌∷◌, ◌++◌, fold}
use Rattle.std.proofs.Common.{length, Some, None, refl, sym, ap, subst, ◌∙◌, arith, length-append, append_assoc}
use Rattle.std.proofs.lemmas.List.{append-nil}
use Rattle.std.specs.Bool.{if◌then◌else◌}
use Rattle.std.specs.List.{list_all}
use Rattle.std.proofs.lemmas.Bool.{and_from, and_parts, eqb-true, lt-ltb}
use Rattle.std.proofs.lemmas.Bool.Decides.{nat_tests}
use Rattle.std.proofs.Math.Nat.{pow-suc}
use Rattle.text_lines.proofs.Bytes.{are_above}
use Rattle.text_lines.proofs.Parting.{some_is}
use Rattle.pcode_assembler.specs.Words.{hexadecimal_digit, hexadecimal_digits, hexadecimal_value, is_hexadecimal, members, nibble_of, set_digits}
use Rattle.pcode_assembler.proofs.Numbers.{nibble_small}

-- ---- one digit

digit_low : (v : ℕ) (low : Bool) → nat_lt v 10 ≡ low → v < 16
    → (is_hexadecimal (if low then 48 + v else 87 + v) ≡ true) × (nibble_of (if low then 48 + v else 87 + v) ≡ v)
digit_low v true is small = (grind (arith, nat_tests), grind (arith, nat_tests))
digit_low v false is small = (grind (arith, nat_tests), grind (arith, nat_tests))

digit_is : (v : ℕ) → v < 16 → (is_hexadecimal (hexadecimal_digit v) ≡ true) × (nibble_of (hexadecimal_digit v) ≡ v)
digit_is v small = digit_low v (nat_lt v 10) refl small

digit_back : (digit : ℕ) → is_hexadecimal digit ≡ true → hexadecimal_digit (nibble_of digit) ≡ digit
digit_back digit is = grind (arith, nat_tests)

-- ---- digits

abbrev shifted : ℕ → ℕ → ℕ
shifted value digit = value * 16 + nibble_of digit

fold_snoc : (xs : List ℕ) (x v : ℕ) → fold shifted v (xs ++ x ∷ []) ≡ shifted (fold shifted v xs) x
fold_snoc [] x v = refl
fold_snoc (y ∷ xs) x v = fold_snoc xs x (shifted v y)

all_snoc : (test : ℕ → Bool) (xs : List ℕ) (x : ℕ) → list_all test xs ≡ true → test x ≡ true → list_all test (xs ++ x ∷ []) ≡ true
all_snoc test [] x all one = and_from _ _ one refl
all_snoc test (y ∷ xs) x all one =
    let parts = and_parts (test y) (list_all test xs) all in
    and_from _ _ parts.0 (all_snoc test xs x parts.1 one)

digits_next : (k n : ℕ) → hexadecimal_digits (suc k) n ≡ hexadecimal_digits k (n / 16) ++ hexadecimal_digit (n % 16) ∷ []
unfolding hexadecimal_digits
digits_next k n = refl

digits_none : (n : ℕ) → hexadecimal_digits 0 n ≡ []
unfolding hexadecimal_digits
digits_none n = refl

digits_length : (k n : ℕ) → length (hexadecimal_digits k n) ≡ k
digits_length zero n = ap length (digits_none n)
digits_length (suc k) n =
    ap length (digits_next k n) ∙ length-append (hexadecimal_digits k (n / 16)) (hexadecimal_digit (n % 16) ∷ [])
    ∙ omega (arith, digits_length k (n / 16))

digits_all : (k n : ℕ) → list_all is_hexadecimal (hexadecimal_digits k n) ≡ true
digits_all zero n = ap (list_all is_hexadecimal) (digits_none n)
digits_all (suc k) n =
    ap (list_all is_hexadecimal) (digits_next k n)
    ∙ all_snoc is_hexadecimal (hexadecimal_digits k (n / 16)) (hexadecimal_digit (n % 16)) (digits_all k (n / 16)) (digit_is (n % 16) (omega arith)).0

digits_value : (k n : ℕ) → n < 16 ^ k → hexadecimal_value (hexadecimal_digits k n) ≡ n
digits_value zero n small = ap hexadecimal_value (digits_none n) ∙ omega arith
digits_value (suc k) n small =
    let p = pow-suc 16 k in
    let less : n / 16 < 16 ^ k = omega (arith, p) in
    let high = digits_value k (n / 16) less in
    let low = (digit_is (n % 16) (omega arith)).1 in
    ap hexadecimal_value (digits_next k n) ∙ fold_snoc (hexadecimal_digits k (n / 16)) (hexadecimal_digit (n % 16)) 0
    ∙ omega (arith, high, low)

-- a list is its front and its last element
last_of : (xs : List ℕ) (k : ℕ) → length xs ≡ suc k → (front : List ℕ) × (last : ℕ) × (xs ≡ front ++ last ∷ []) × (length front ≡ k)
last_of [] k is = absurd (omega arith)
last_of (x ∷ []) k is = ([], x, refl, omega arith)
last_of (x ∷ y ∷ more) zero is = absurd (omega arith)
last_of (x ∷ y ∷ more) (suc k) is =
    let rest = last_of (y ∷ more) k (omega arith) in
    (x ∷ rest.0, rest.1, ap (λ xs. x ∷ xs) rest.2, omega (arith, rest.3))

all_front : (test : ℕ → Bool) (xs : List ℕ) (x : ℕ) → list_all test (xs ++ x ∷ []) ≡ true → (list_all test xs ≡ true) × (test x ≡ true)
all_front test [] x all = (refl, (and_parts (test x) true all).0)
all_front test (y ∷ xs) x all =
    let parts = and_parts (test y) (list_all test (xs ++ x ∷ [])) all in
    let rest = all_front test xs x parts.1 in
    (and_from _ _ parts.0 rest.0, rest.1)

digits_of_value : (k : ℕ) (word : List ℕ) → length word ≡ k → list_all is_hexadecimal word ≡ true
    → (hexadecimal_digits k (hexadecimal_value word) ≡ word) × (hexadecimal_value word < 16 ^ k)
digits_of_value zero [] is all = (digits_none 0, omega arith)
digits_of_value zero (x ∷ more) is all = absurd (omega arith)
digits_of_value (suc k) word is all =
    let ends = last_of word k is in
    let tests = all_front is_hexadecimal ends.0 ends.1 (subst (λ (w : List ℕ). list_all is_hexadecimal w ≡ true) ends.2 all) in
    let rest = digits_of_value k ends.0 ends.3 tests.0 in
    let low = nibble_small ends.1 tests.1 in
    let value = ap hexadecimal_value ends.2 ∙ fold_snoc ends.0 ends.1 0 in
    let high : hexadecimal_value word / 16 ≡ hexadecimal_value ends.0 = omega (arith, value, low) in
    let nibble : hexadecimal_value word % 16 ≡ nibble_of ends.1 = omega (arith, value, low) in
    let p = pow-suc 16 k in (
      digits_next k (hexadecimal_value word) ∙ ap (λ n. hexadecimal_digits k n ++ hexadecimal_digit (hexadecimal_value word % 16) ∷ []) high
          ∙ ap (λ n. hexadecimal_digits k (hexadecimal_value ends.0) ++ hexadecimal_digit n ∷ []) nibble
          ∙ ap (λ d. hexadecimal_digits k (hexadecimal_value ends.0) ++ d ∷ []) (digit_back ends.1 tests.1)
          ∙ ap (λ front. front ++ ends.1 ∷ []) rest.0 ∙ sym ends.2,
      omega (arith, p, value, low, rest.1),
    )

-- ---- sets

whole : 16 ^ 32 ≡ 2 ^ 128
whole = refl

members_test : (word : List ℕ) (m : ℕ) (right : Bool) → (nat_eq (length word) 32 && list_all is_hexadecimal word) ≡ right
    → (if right then Some (hexadecimal_value word) else None) ≡ Some m → (word ≡ set_digits m) × (nat_lt m (2 ^ 128) ≡ true)
members_test word m true is e =
    let parts = and_parts (nat_eq (length word) 32) (list_all is_hexadecimal word) is in
    let back = digits_of_value 32 word (eqb-true (length word) 32 parts.0) parts.1 in
    let same = some_is (hexadecimal_value word) m e in
    (sym back.0 ∙ ap (hexadecimal_digits 32) same, lt-ltb m (2 ^ 128) (omega (arith, back.1, same, whole)))
members_test word m false is e = absurd cc

pub members-spelled : (word : List ℕ) (m : ℕ) → members word ≡ Some m → (word ≡ set_digits m) × (nat_lt m (2 ^ 128) ≡ true)
members-spelled word m e = members_test word m _ refl e

pub members-again : (m : ℕ) → nat_lt m (2 ^ 128) ≡ true → members (set_digits m) ≡ Some m
members-again m small =
    let low : m < 16 ^ 32 = grind (arith, nat_tests) in
    rw (digits_length 32 m, digits_all 32 m, digits_value 32 m low) refl

hexadecimal_above : (limit byte : ℕ) → limit < 48 → is_hexadecimal byte ≡ true → nat_lt limit byte ≡ true
hexadecimal_above limit byte low is = grind (arith, nat_tests)

all_above : (limit : ℕ) (word : List ℕ) → limit < 48 → list_all is_hexadecimal word ≡ true → are_above limit word ≡ true
all_above limit [] low all = refl
all_above limit (byte ∷ more) low all =
    let parts = and_parts (is_hexadecimal byte) (list_all is_hexadecimal more) all in
    and_from _ _ (hexadecimal_above limit byte low parts.0) (all_above limit more low parts.1)

pub set_above : (limit m : ℕ) → limit < 48 → are_above limit (set_digits m) ≡ true
set_above limit m low = all_above limit (set_digits m) low (digits_all 32 m)

-- ---- digits that are written

pub digits_appended : (old middle new : List ℕ) (count n byte : ℕ) → 0 < count → middle ≡ old ++ hexadecimal_digits (count - 1) (n / 16)
    → new ≡ middle ++ byte ∷ [] → byte ≡ hexadecimal_digit (n % 16) → new ≡ old ++ hexadecimal_digits count n
digits_appended old middle new zero n byte some middle_is new_is byte_is = absurd (omega arith)
digits_appended old middle new (suc k) n byte some middle_is new_is byte_is =
    let less : suc k - 1 ≡ k = omega arith in
    new_is ∙ ap (λ m. m ++ byte ∷ []) (middle_is ∙ ap (λ j. old ++ hexadecimal_digits j (n / 16)) less)
    ∙ append_assoc old (hexadecimal_digits k (n / 16)) (byte ∷ [])
    ∙ ap (λ d. old ++ (hexadecimal_digits k (n / 16) ++ d ∷ [])) byte_is ∙ ap (λ d. old ++ d) (sym (digits_next k n))

pub digits_end : (old : List ℕ) (count n : ℕ) → count ≤ 0 → old ≡ old ++ hexadecimal_digits count n
digits_end old zero n none = sym (append-nil old) ∙ ap (λ d. old ++ d) (sym (digits_none n))
digits_end old (suc k) n none = absurd (omega arith)
