-- Numbers and sets, as they are spelled and read.
use Rattle.std.proofs.Common.{◌≡◌, ℕ, suc, zero, ◌^◌, ◌<◌, ◌≤◌, ℤ, pos, negsuc, neg_ℤ, ◌≤ℤ◌, true}
use Rattle.std.proofs.Common.{int_le, List, ◌∷◌, Option, Some, None, refl}
use Rattle.std.proofs.Common.{ap, subst, ◌∙◌, arith, decimal, codes}
use Rattle.std.specs.Fmt.{signed_decimal}
use Rattle.std.specs.Option.{option_map}
use Rattle.std.proofs.lemmas.Bool.{and_from, and_parts, lt-ltb}
use Rattle.std.proofs.lemmas.Int.{ints}
use Rattle.text_lines.specs.Numerals.{natural}
use Rattle.text_lines.specs.Words.{behind}
use Rattle.text_lines.proofs.Bytes.{are_above}
use Rattle.text_lines.proofs.Digits.{decimal_above, natural-again, natural-spelled, no_beginning}
use Rattle.text_lines.proofs.Parting.{behind_some, some_is}
use Rattle.pcode_assembler.specs.Lines.{is_number_of_32_bits}
use Rattle.pcode_assembler.specs.Words.{from_one, magnitude, negated, negative_of, number, positive, signed}

-- ---- numbers that are at least 1

from_one_is : (o : Option ℕ) (n : ℕ) → from_one o ≡ Some n → (o ≡ Some n) × (1 ≤ n)
from_one_is None n e = absurd cc
from_one_is (Some zero) n e = absurd cc
from_one_is (Some (suc m)) n e = let same = some_is (suc m) n e in (e, omega (arith, same))

pub positive-spelled : (limit : ℕ) (word : List ℕ) (n : ℕ) → positive limit word ≡ Some n → limit < 2 ^ 64
    → (word ≡ decimal n) × (1 ≤ n) × (n ≤ limit)
positive-spelled limit word n e small =
    let found = from_one_is (natural limit word) n e in
    let spelled = natural-spelled limit word n found.0 small in
    (spelled.0, found.1, spelled.1)

pub positive-again : (limit n : ℕ) → 1 ≤ n → n ≤ limit → n < 2 ^ 64 → positive limit (decimal n) ≡ Some n
positive-again limit zero some fits small = absurd (omega arith)
positive-again limit (suc n) some fits small = ap from_one (natural-again limit (suc n) fits small)

-- ---- numbers with a sign

option_map_is : {A B : Type 0} (f : A → B) (o : Option A) (y : B) → option_map f o ≡ Some y → (x : A) × (o ≡ Some x) × (f x ≡ y)
option_map_is f None y e = absurd cc
option_map_is f (Some x) y e = (x, refl, some_is (f x) y e)

pub mapped : {A B : Type 0} (f : A → B) (o : Option A) (y : B) → option_map f o ≡ Some y → (x : A) × (o ≡ Some x) × (f x ≡ y)
mapped f o y e = option_map_is f o y e

bits_from : (z : ℤ) → neg_ℤ (pos 2147483648) ≤ℤ z → z ≤ℤ pos 2147483647 → is_number_of_32_bits z ≡ true
bits_from z low high = grind (arith, ints)

pub bits_is : (z : ℤ) → is_number_of_32_bits z ≡ true → (neg_ℤ (pos 2147483648) ≤ℤ z) × (z ≤ℤ pos 2147483647)
bits_is z fits =
    let parts = and_parts (int_le (neg_ℤ (pos 2147483648)) z) (int_le z (pos 2147483647)) fits in
    (grind (arith, ints, parts), grind (arith, ints, parts))

negative_is : (o : Option ℕ) (z : ℤ) → negative_of o ≡ Some z → (n : ℕ) × (o ≡ Some (suc n)) × (negsuc n ≡ z)
negative_is None z e = absurd cc
negative_is (Some zero) z e = absurd cc
negative_is (Some (suc n)) z e = (n, refl, some_is (negsuc n) z e)

negated_spelled : (digits : List ℕ) (z : ℤ) → negated digits ≡ Some z → (45 ∷ digits ≡ signed_decimal z) × (is_number_of_32_bits z ≡ true)
negated_spelled digits z e =
    let found = negative_is (natural 2147483648 digits) z e in
    let spelled = natural-spelled 2147483648 digits (suc found.0) found.1 (omega arith) in
    subst (λ (z : ℤ). (45 ∷ digits ≡ signed_decimal z) × (is_number_of_32_bits z ≡ true)) found.2
    (ap (λ digits. 45 ∷ digits) spelled.0, bits_from (negsuc found.0) (omega (arith, ints, spelled.1)) (omega (arith, ints)))

magnitude_spelled : (digits : List ℕ) (z : ℤ) → magnitude digits ≡ Some z → (digits ≡ signed_decimal z) × (is_number_of_32_bits z ≡ true)
magnitude_spelled digits z e =
    let found = option_map_is pos (natural 2147483647 digits) z e in
    let spelled = natural-spelled 2147483647 digits found.0 found.1 (omega arith) in
    subst (λ (z : ℤ). (digits ≡ signed_decimal z) × (is_number_of_32_bits z ≡ true)) found.2
    (spelled.0, bits_from (pos found.0) (omega (arith, ints)) (omega (arith, ints, spelled.1)))

signed_spelled : (word : List ℕ) (o : Option (List ℕ)) (z : ℤ) → behind (codes "-") word ≡ o → signed o word ≡ Some z
    → (word ≡ signed_decimal z) × (is_number_of_32_bits z ≡ true)
signed_spelled word None z is e = magnitude_spelled word z e
signed_spelled word (Some digits) z is e =
    let found = negated_spelled digits z e in
    (behind_some (codes "-") word digits is ∙ found.0, found.1)

pub number-spelled : (word : List ℕ) (z : ℤ) → number word ≡ Some z → (word ≡ signed_decimal z) × (is_number_of_32_bits z ≡ true)
number-spelled word z e = signed_spelled word _ z refl e

pub number-again : (z : ℤ) → is_number_of_32_bits z ≡ true → number (signed_decimal z) ≡ Some z
number-again (pos n) fits =
    let high = (bits_is (pos n) fits).1 in
    let small : n < 2 ^ 64 = omega (arith, ints) in
    rw (no_beginning 45 n refl small, natural-again 2147483647 n (omega (arith, ints)) small) refl
number-again (negsuc n) fits =
    let low = (bits_is (negsuc n) fits).0 in
    rw (natural-again 2147483648 (suc n) (omega (arith, ints)) (omega (arith, ints))) refl

-- ---- the bytes of numbers

pub number_above : (limit : ℕ) (z : ℤ) → limit < 45 → is_number_of_32_bits z ≡ true → are_above limit (signed_decimal z) ≡ true
number_above limit (pos n) low fits = let ends = bits_is (pos n) fits in decimal_above limit n (omega arith) (omega (arith, ints, ends.1))
number_above limit (negsuc n) low fits =
    let ends = bits_is (negsuc n) fits in
    and_from _ _ (lt-ltb limit 45 (omega arith)) (decimal_above limit (suc n) (omega arith) (omega (arith, ints, ends.0)))
