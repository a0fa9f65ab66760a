-- Operands in words parted by blanks.
use Rattle.std.proofs.Common.{◌≡◌, ℕ, ◌^◌, ◌<◌, ◌≤◌, true, nat_le, List, ◌∷◌, ◌++◌}
use Rattle.std.proofs.Common.{Option, Some, None, refl, ap, ◌∙◌, arith, decimal}
use Rattle.std.specs.Option.{option_and_then, option_zip}
use Rattle.std.proofs.lemmas.Bool.Decides.{nat_tests}
use Rattle.text_lines.specs.Numerals.{natural}
use Rattle.text_lines.specs.Words.{parted}
use Rattle.text_lines.proofs.Bytes.{are_above}
use Rattle.text_lines.proofs.Digits.{decimal_above, natural-again, natural-spelled}
use Rattle.text_lines.proofs.Parting.{parted-again, parted-spelled, some_is}
use Rattle.pcode_assembler.specs.Words.{both}

pub le_is : (n limit : ℕ) → nat_le n limit ≡ true → n ≤ limit
le_is n limit is = grind (arith, nat_tests)

pub le_true : (n limit : ℕ) → n ≤ limit → nat_le n limit ≡ true
le_true n limit small = grind (arith, nat_tests)

-- ---- two operands

zip_is : {A B : Type 0} (a : Option A) (b : Option B) (x : A) (y : B) → option_zip a b ≡ Some (x, y) → (a ≡ Some x) × (b ≡ Some y)
zip_is (Some a) (Some b) x y e = let same = some_is (a, b) (x, y) e in (ap (λ p. Some p.0) same, ap (λ p. Some p.1) same)
zip_is (Some a) None x y e = absurd cc
zip_is None b x y e = absurd cc

both_parted : {A B : Type 0} (f : List ℕ → Option A) (g : List ℕ → Option B) (words : List ℕ) (o : Option (List ℕ × List ℕ)) (x : A) (y : B)
    → parted words ≡ o → option_and_then (λ parts. option_zip (f parts.0) (g parts.1)) o ≡ Some (x, y)
    → (u v : List ℕ) × (words ≡ u ++ 32 ∷ v) × (f u ≡ Some x) × (g v ≡ Some y)
both_parted f g words None x y is e = absurd cc
both_parted f g words (Some parts) x y is e =
    let each = zip_is (f parts.0) (g parts.1) x y e in
    (parts.0, parts.1, parted-spelled words parts.0 parts.1 is, each.0, each.1)

pub both-spelled : {A B : Type 0} (f : List ℕ → Option A) (g : List ℕ → Option B) (words : List ℕ) (x : A) (y : B) → both f g words ≡ Some (x, y)
    → (u v : List ℕ) × (words ≡ u ++ 32 ∷ v) × (f u ≡ Some x) × (g v ≡ Some y)
both-spelled f g words x y e = both_parted f g words _ x y refl e

pub both-again : {A B : Type 0} (f : List ℕ → Option A) (g : List ℕ → Option B) (u v : List ℕ) (x : A) (y : B) → are_above 32 u ≡ true
    → f u ≡ Some x → g v ≡ Some y → both f g (u ++ 32 ∷ v) ≡ Some (x, y)
both-again f g u v x y above first second =
    ap (option_and_then (λ parts. option_zip (f parts.0) (g parts.1))) (parted-again u v above) ∙ rw (first, second) refl

-- ---- operands by their tests

pub nat_again : (limit n : ℕ) → nat_le n limit ≡ true → limit < 2 ^ 64 → natural limit (decimal n) ≡ Some n
nat_again limit n small low = let h = le_is n limit small in natural-again limit n h (omega arith)

pub nat_above : (floor limit n : ℕ) → floor < 48 → nat_le n limit ≡ true → limit < 2 ^ 64 → are_above floor (decimal n) ≡ true
nat_above floor limit n low small few = let h = le_is n limit small in decimal_above floor n low (omega arith)

pub nat_spelled : (limit : ℕ) (word : List ℕ) (n : ℕ) → natural limit word ≡ Some n → limit < 2 ^ 64 → (word ≡ decimal n) × (nat_le n limit ≡ true)
nat_spelled limit word n e small =
    let spelled = natural-spelled limit word n e small in (spelled.0, le_true n limit spelled.1)
