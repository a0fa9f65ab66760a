-- Numbers with and without a sign, as they are spelled and read.
use Rattle.std.proofs.Common.{◌≡◌, ℕ, suc, zero, ◌^◌, ◌<◌, ◌≤◌, ℤ, pos, negsuc, neg_ℤ, ◌≤ℤ◌, true, false}
use Rattle.std.proofs.Common.{int_le, int_lt, List, ◌∷◌, Option, Some, None, Result, Ok, Err, refl}
use Rattle.std.proofs.Common.{ap, subst, ◌∙◌, arith, ◌⊎◌, inl, inr, decimal, codes}
use Rattle.std.specs.Option.{ok_or}
use Rattle.std.specs.Fmt.{signed_decimal}
use Rattle.std.proofs.lemmas.Bool.{and_parts}
use Rattle.std.proofs.lemmas.Int.{ints}
use Rattle.text_lines.specs.Numerals.{natural}
use Rattle.text_lines.specs.Words.{behind}
use Rattle.text_lines.proofs.Digits.{natural-again, natural-spelled, no_beginning}
use Rattle.text_lines.proofs.Parting.{behind_some}
use Rattle.certificate.specs.declared.words.LineFault.{LineFault}
use Rattle.certificate.specs.Contents.{is_constant}
use Rattle.certificate.specs.Words.{◌>>=◌, at_most, constant_of, lowered, lowered_of, maxint, negative, negative_of}
use Rattle.certificate.specs.Words.{number_fault, positive_of, when}

-- ---- what is read is spelled so

pub ok_is : {A : Type 0} (x y : A) → (let r : Result A LineFault = Ok x in r ≡ Ok y) → x ≡ y
ok_is x y e = cc

-- what is there for a fault in its place
pub found : {A : Type 0} (o : Option A) (fault : LineFault) (x : A) → ok_or o fault ≡ Ok x → o ≡ Some x
found None fault x e = absurd cc
found (Some y) fault x e = ap Some (ok_is y x e)

pub at_most-spelled : (limit : ℕ) (word : List ℕ) (n : ℕ) → at_most limit word ≡ Ok n → limit < 2 ^ 64
    → (word ≡ decimal n) × (n ≤ limit)
at_most-spelled limit word n e small = natural-spelled limit word n (found (natural limit word) (number_fault word) n e) small

pub at_most-again : (limit n : ℕ) → n ≤ limit → n < 2 ^ 64 → at_most limit (decimal n) ≡ Ok n
at_most-again limit n fits small = ap (λ number. ok_or number (number_fault (decimal n))) (natural-again limit n fits small)

-- ---- numbers with a sign

pub bound_ok : {A B : Type 0} (r : Result A LineFault) (f : A → Result B LineFault) (y : B) → (r >>= f) ≡ Ok y
    → (x : A) × (r ≡ Ok x) × (f x ≡ Ok y)
bound_ok (Ok x) f y e = (x, refl, e)
bound_ok (Err fault) f y e = absurd cc

pub when_ok : {A : Type 0} (o : Option (List ℕ)) (read : List ℕ → Result A LineFault) (otherwise : Result A LineFault) (x : A)
    → when o read otherwise ≡ Ok x → ((rest : List ℕ) × (o ≡ Some rest) × (read rest ≡ Ok x)) ⊎ (otherwise ≡ Ok x)
when_ok None read otherwise x e = inr e
when_ok (Some rest) read otherwise x e = inl (rest, refl, e)

constant_from : (z : ℤ) → neg_ℤ (pos maxint) ≤ℤ z → z ≤ℤ pos maxint → is_constant z ≡ true
constant_from z low high = grind (arith, ints)

pub constant_is : (z : ℤ) → is_constant z ≡ true → (neg_ℤ (pos maxint) ≤ℤ z) × (z ≤ℤ pos maxint)
constant_is z fits =
    let parts = and_parts (int_le (neg_ℤ (pos maxint)) z) (int_le z (pos maxint)) fits in
    (grind (arith, ints, parts), grind (arith, ints, parts))

pub below_zero : (n : ℕ) → int_lt (negsuc n) (pos 0) ≡ true
below_zero n = grind (arith, ints)

pub not_below_zero : (n : ℕ) → int_lt (pos n) (pos 0) ≡ false
not_below_zero n = grind (arith, ints)

negative_is : (n : ℕ) (z : ℤ) → negative n ≡ Ok z → n ≤ maxint
    → (45 ∷ decimal n ≡ signed_decimal z) × (int_lt z (pos 0) ≡ true) × (is_constant z ≡ true)
negative_is zero z e fits = absurd cc
negative_is (suc n) z e fits =
    subst (λ z. (45 ∷ decimal (suc n) ≡ signed_decimal z) × (int_lt z (pos 0) ≡ true) × (is_constant z ≡ true)) (ok_is (negsuc n) z e)
    (refl, below_zero n, constant_from (negsuc n) (omega (arith, ints)) (omega (arith, ints)))

-- digits behind a minus, or without one
pub negative_spelled : (digits : List ℕ) (z : ℤ) → negative_of digits ≡ Ok z
    → (45 ∷ digits ≡ signed_decimal z) × (int_lt z (pos 0) ≡ true) × (is_constant z ≡ true)
negative_spelled digits z e =
    let number = bound_ok (at_most maxint digits) negative z e in
    let spelled = at_most-spelled maxint digits number.0 number.1 (omega arith) in
    let sign = negative_is number.0 z number.2 spelled.1 in
    (ap (λ digits. 45 ∷ digits) spelled.0 ∙ sign.0, sign.1, sign.2)

lowered_is : (n : ℕ) (z : ℤ) → lowered n ≡ Ok z → negative n ≡ Ok z
lowered_is zero z e = absurd cc
lowered_is (suc n) z e = e

pub lowered_read : (digits : List ℕ) (z : ℤ) → lowered_of digits ≡ Ok z → negative_of digits ≡ Ok z
lowered_read digits z e =
    let number = bound_ok (at_most maxint digits) lowered z e in
    ap (λ magnitude. magnitude >>= negative) number.1 ∙ lowered_is number.0 z number.2

pub positive_spelled : (digits : List ℕ) (z : ℤ) → positive_of digits ≡ Ok z
    → (digits ≡ signed_decimal z) × (int_lt z (pos 0) ≡ false) × (is_constant z ≡ true)
positive_spelled digits z e =
    let number = bound_ok (at_most maxint digits) (λ magnitude. Ok (pos magnitude)) z e in
    let spelled = at_most-spelled maxint digits number.0 number.1 (omega arith) in
    subst (λ z. (digits ≡ signed_decimal z) × (int_lt z (pos 0) ≡ false) × (is_constant z ≡ true)) (ok_is (pos number.0) z number.2)
    (spelled.0, not_below_zero number.0, constant_from (pos number.0) (omega (arith, ints)) (omega (arith, ints, spelled.1)))

pub constant_spelled : (word : List ℕ) (z : ℤ) → constant_of word ≡ Ok z → (word ≡ signed_decimal z) × (is_constant z ≡ true)
constant_spelled word z e =
    elim (when_ok (behind (codes "-") word) negative_of _ z e) [
      | inl found ↦
          let number = negative_spelled found.0 z found.2 in (behind_some (codes "-") word found.0 found.1 ∙ number.0, number.2)
      | inr found ↦ let number = positive_spelled word z found in (number.0, number.2)
    ]

-- what digits say behind a minus, or without one
pub negative_again : (n : ℕ) → is_constant (negsuc n) ≡ true → negative_of (decimal (suc n)) ≡ Ok (negsuc n)
negative_again n fits =
    let low = (constant_is (negsuc n) fits).0 in
    rw (at_most-again maxint (suc n) (omega (arith, ints)) (omega (arith, ints))) refl

pub lowered_again : (n : ℕ) → is_constant (negsuc n) ≡ true → lowered_of (decimal (suc n)) ≡ Ok (negsuc n)
lowered_again n fits =
    let low = (constant_is (negsuc n) fits).0 in
    rw (at_most-again maxint (suc n) (omega (arith, ints)) (omega (arith, ints))) refl

pub positive_again : (n : ℕ) → is_constant (pos n) ≡ true → positive_of (decimal n) ≡ Ok (pos n)
positive_again n fits =
    let high = (constant_is (pos n) fits).1 in
    rw (at_most-again maxint n (omega (arith, ints)) (omega (arith, ints))) refl

pub constant_small : (n : ℕ) → is_constant (pos n) ≡ true → n < 2 ^ 64
constant_small n fits = let high = (constant_is (pos n) fits).1 in omega (arith, ints)

pub constant_again : (z : ℤ) → is_constant z ≡ true → constant_of (signed_decimal z) ≡ Ok z
constant_again (pos n) fits = rw (no_beginning 45 n refl (constant_small n fits), positive_again n fits) refl
constant_again (negsuc n) fits = negative_again n fits
