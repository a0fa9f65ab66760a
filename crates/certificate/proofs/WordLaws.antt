-- Numbers, variables and the parts of a line, as they are spelled and read.
use Rattle.std.proofs.Common.{◌≡◌, ℕ, suc, ◌+◌, ◌-◌, ◌<◌, ◌≤◌, ℤ, pos, negsuc, true, List, ◌∷◌, ◌++◌, length}
use Rattle.std.proofs.Common.{take, drop, Result, Ok, Err, ap, ◌∙◌, arith, inl, inr, decimal, codes}
use Rattle.std.specs.Option.{ok_or}
use Rattle.std.specs.Fmt.{signed_decimal}
use Rattle.std.proofs.lemmas.Bool.{and_from}
use Rattle.std.proofs.lemmas.Bool.Decides.{nat_tests}
use Rattle.std.proofs.lemmas.Grind.{common_steps}
use Rattle.std.proofs.lemmas.Int.{ints}
use Rattle.text_lines.specs.Words as text
use Rattle.text_lines.specs.Words.{behind}
use Rattle.text_lines.proofs.Bytes.{are_above, byte_above}
use Rattle.text_lines.proofs.Digits.{decimal_above}
use Rattle.text_lines.proofs.Parting.{behind_some, parted-again, parted-spelled}
use Rattle.certificate.specs.declared.words.LineFault.{LineFault}
use Rattle.certificate.specs.declared.words.LineFault.TheVariants.{NotInGrammar, OutOfRange}
use Rattle.certificate.specs.Contents.{is_constant, is_small}
use Rattle.certificate.specs.Words.{both, most, number_of, parted, variable, variable_of}
use Rattle.certificate.proofs.Numerals.{at_most-again, at_most-spelled, constant_is, found, ok_is, when_ok}

-- ---- what is read is spelled so

small_from : (n : ℕ) → n ≤ most → is_small n ≡ true
small_from n h = grind (arith, nat_tests)

pub small_is : (n : ℕ) → is_small n ≡ true → n ≤ most
small_is n h = grind (arith, nat_tests)

pub number_spelled : (word : List ℕ) (n : ℕ) → number_of word ≡ Ok n → (word ≡ decimal n) × (is_small n ≡ true)
number_spelled word n e =
    let spelled = at_most-spelled most word n e (omega arith) in
    (spelled.0, small_from n spelled.1)

pub variable_spelled : (word : List ℕ) (n : ℕ) → variable_of word ≡ Ok n → (word ≡ variable n) × (is_small n ≡ true)
variable_spelled word n e =
    elim (when_ok (behind (codes "v") word) number_of (Err NotInGrammar) n e) [
      | inl found ↦
          let spelled = number_spelled found.0 n found.2 in
          (behind_some (codes "v") word found.0 found.1 ∙ ap (λ digits. codes "v" ++ digits) spelled.0, spelled.1)
      | inr fault ↦ absurd cc
    ]

pub both_ok : {A B : Type 0} (a : Result A LineFault) (b : Result B LineFault) (x : A) (y : B) → both a b ≡ Ok (x, y) → (a ≡ Ok x) × (b ≡ Ok y)
both_ok (Ok a) (Ok b) x y e =
    let same = ok_is (a, b) (x, y) e in (ap (λ p. Ok p.0) same, ap (λ p. Ok p.1) same)
both_ok (Ok a) (Err fault) x y e = absurd cc
both_ok (Err NotInGrammar) b x y e = absurd cc
both_ok (Err OutOfRange) (Ok b) x y e = absurd cc
both_ok (Err OutOfRange) (Err fault) x y e = absurd cc

pub parted_spelled : (words a b : List ℕ) → parted words ≡ Ok (a, b) → words ≡ a ++ 32 ∷ b
parted_spelled words a b e = parted-spelled words a b (found (text.parted words) NotInGrammar (a, b) e)

-- ---- the bytes of a line

pub number_above : (limit n : ℕ) → limit < 48 → is_small n ≡ true → are_above limit (decimal n) ≡ true
number_above limit n low small = let most = small_is n small in decimal_above limit n low (omega arith)

pub variable_above : (limit n : ℕ) → limit < 48 → is_small n ≡ true → are_above limit (variable n) ≡ true
variable_above limit n low small = and_from _ _ (byte_above limit 118 (omega arith)) (number_above limit n low small)

pub constant_above : (limit : ℕ) (z : ℤ) → limit < 45 → is_constant z ≡ true → are_above limit (signed_decimal z) ≡ true
constant_above limit (pos n) low fits = let ends = constant_is (pos n) fits in decimal_above limit n (omega arith) (omega (arith, ints, ends.1))
constant_above limit (negsuc n) low fits =
    let ends = constant_is (negsuc n) fits in
    and_from _ _ (byte_above limit 45 (omega arith)) (decimal_above limit (suc n) (omega arith) (omega (arith, ints, ends.0)))

-- ---- words

pub word_behind : (words : List ℕ) (end : ℕ) → take (length words - (end + 1)) (drop (end + 1) words) ≡ drop (suc end) words
word_behind words end = grind (arith, common_steps)

pub parted_again : (word rest : List ℕ) → are_above 32 word ≡ true → parted (word ++ 32 ∷ rest) ≡ Ok (word, rest)
parted_again word rest above = ap (λ parts. ok_or parts NotInGrammar) (parted-again word rest above)

pub number_again : (n : ℕ) → is_small n ≡ true → number_of (decimal n) ≡ Ok n
number_again n small = let limit = small_is n small in at_most-again most n limit (omega arith)

pub variable_again : (n : ℕ) → is_small n ≡ true → variable_of (variable n) ≡ Ok n
variable_again n small = number_again n small
