-- Bounds, and their words.
use Rattle.std.proofs.Common.{◌≡◌, ℕ, suc, ◌+◌, ◌<◌, ℤ, pos, negsuc, Bool, true, false, cond, not, int_lt, List, [], ◌∷◌, ◌++◌, length, take, drop}
use Rattle.std.proofs.Common.{Result, Ok, Err, refl, sym, ap, subst, ◌∙◌, arith, inl, inr, decimal, codes}
use Rattle.std.specs.Char.{is_ascii_digit}
use Rattle.std.specs.Fmt.{signed_decimal}
use Rattle.std.specs.List.{list_all, position_or_len}
use Rattle.std.proofs.lemmas.Bool.{and_from, and_parts}
use Rattle.std.proofs.lemmas.Bool.Decides.{nat_tests}
use Rattle.std.proofs.lemmas.Fmt.{digits_decimal}
use Rattle.std.proofs.lemmas.List.{take-append-drop, take_at}
use Rattle.domain.specs.Facts.{Bound, Number, Plus}
use Rattle.text_lines.specs.Words.{behind}
use Rattle.text_lines.proofs.Bytes.{above_append, are_above, byte_above}
use Rattle.text_lines.proofs.Digits.{no_beginning, own}
use Rattle.text_lines.proofs.Parting.{behind_some}
use Rattle.certificate.specs.declared.words.LineFault.{LineFault}
use Rattle.certificate.specs.declared.words.LineFault.TheVariants.{NotInGrammar}
use Rattle.certificate.specs.Bounds.{bound_of, bound_words, is_sign, offset, offset_of, plus_at}
use Rattle.certificate.specs.Contents.{is_bound, is_constant, is_small}
use Rattle.certificate.specs.Words.{◌>>=◌, both, constant_of, lowered_of, positive_of, variable, variable_of}
use Rattle.certificate.proofs.Numerals.{below_zero, bound_ok, constant_again, constant_small, constant_spelled, lowered_again, lowered_read}
use Rattle.certificate.proofs.Numerals.{negative_spelled, not_below_zero, ok_is, positive_again, positive_spelled, when_ok}
use Rattle.certificate.proofs.WordLaws.{both_ok, constant_above, small_is, variable_above, variable_again}
use Rattle.certificate.proofs.WordLaws.{variable_spelled}

-- ---- what is read is spelled so

signed_offset : (z : ℤ) → int_lt z (pos 0) ≡ true → signed_decimal z ≡ offset z
signed_offset z below = rw below refl

plus_offset : (z : ℤ) → int_lt z (pos 0) ≡ false → 43 ∷ signed_decimal z ≡ offset z
plus_offset z below = rw below refl

offset_spelled : (word : List ℕ) (z : ℤ) → offset_of word ≡ Ok z → (word ≡ offset z) × (is_constant z ≡ true)
offset_spelled word z e =
    elim (when_ok (behind (codes "+") word) positive_of _ z e) [
      | inl found ↦
          let number = positive_spelled found.0 z found.2 in
          (behind_some (codes "+") word found.0 found.1 ∙ ap (λ digits. 43 ∷ digits) number.0 ∙ plus_offset z number.1, number.2)
      | inr minus ↦
          elim (when_ok (behind (codes "-") word) lowered_of (Err NotInGrammar) z minus) [
            | inl found ↦
                let number = negative_spelled found.0 z (lowered_read found.0 z found.2) in
                (behind_some (codes "-") word found.0 found.1 ∙ number.0 ∙ signed_offset z number.1, number.2)
            | inr fault ↦ absurd cc
          ]
    ]

plus_spelled : (word : List ℕ) (end : ℕ) (bound : Bound) → plus_at word end ≡ Ok bound → (word ≡ bound_words bound) × (is_bound bound ≡ true)
plus_spelled word end bound e =
    let made : ℕ × ℤ → Result Bound LineFault = λ parts. Ok (Plus parts.0 parts.1) in
    let parts = bound_ok (both (variable_of (take end word)) (offset_of (drop end word))) made bound e in
    let two = both_ok (variable_of (take end word)) (offset_of (drop end word)) parts.0.0 parts.0.1 parts.1 in
    let root = variable_spelled (take end word) parts.0.0 two.0 in
    let number = offset_spelled (drop end word) parts.0.1 two.1 in
    let whole : word ≡ variable parts.0.0 ++ offset parts.0.1 =
    sym (take-append-drop end word) ∙ ap (λ front. front ++ drop end word) root.0 ∙ ap (λ rest. variable parts.0.0 ++ rest) number.0 in
    subst (λ bound. (word ≡ bound_words bound) × (is_bound bound ≡ true)) (ok_is (Plus parts.0.0 parts.0.1) bound parts.2)
    (whole, and_from _ _ root.1 number.1)

-- a word that says a bound is the word of that bound
pub bound_spelled : (word : List ℕ) (bound : Bound) → bound_of word ≡ Ok bound → (word ≡ bound_words bound) × (is_bound bound ≡ true)
bound_spelled word bound e =
    elim (when_ok (behind (codes "v") word) (λ _. plus_at word (position_or_len is_sign word)) _ bound e) [
      | inl found ↦ plus_spelled word (position_or_len is_sign word) bound found.2
      | inr plain ↦
          let number = bound_ok (constant_of word) (λ number. Ok (Number number)) bound plain in
          let spelled = constant_spelled word number.0 number.1 in
          subst (λ bound. (word ≡ bound_words bound) × (is_bound bound ≡ true)) (ok_is (Number number.0) bound number.2) spelled
    ]

-- ---- what is spelled so is read

offset_again : (z : ℤ) → is_constant z ≡ true → offset_of (offset z) ≡ Ok z
offset_again (pos n) fits = ap offset_of (sym (plus_offset (pos n) (not_below_zero n))) ∙ positive_again n fits
offset_again (negsuc n) fits = lowered_again n fits

-- a text without a sign
abbrev are_signless : List ℕ → Bool
are_signless text = list_all (λ byte. not (is_sign byte)) text

digit_signless : (byte : ℕ) → is_ascii_digit byte ≡ true → not (is_sign byte) ≡ true
digit_signless byte digit = grind (arith, nat_tests)

digits_signless : (word : List ℕ) → list_all is_ascii_digit word ≡ true → are_signless word ≡ true
digits_signless [] digits = refl
digits_signless (byte ∷ word) digits =
    let parts = and_parts (is_ascii_digit byte) (list_all is_ascii_digit word) digits in
    and_from _ _ (digit_signless byte parts.0) (digits_signless word parts.1)

sign_behind : (sign : Bool) (n : ℕ) → not sign ≡ true → cond (not sign) (1 + n) 0 ≡ suc n
sign_behind true n other = absurd cc
sign_behind false n other = omega arith

sign_at : (word : List ℕ) (sign : ℕ) (rest : List ℕ) → are_signless word ≡ true → is_sign sign ≡ true
    → position_or_len is_sign (word ++ sign ∷ rest) ≡ length word
sign_at [] sign rest signless is = rw is refl
sign_at (byte ∷ word) sign rest signless is =
    let parts = and_parts (not (is_sign byte)) (are_signless word) signless in
    sign_behind (is_sign byte) (position_or_len is_sign (word ++ sign ∷ rest)) parts.0 ∙ ap (λ n. suc n) (sign_at word sign rest parts.1 is)

drop_behind : (word rest : List ℕ) → drop (length word) (word ++ rest) ≡ rest
drop_behind [] rest = refl
drop_behind (byte ∷ word) rest = drop_behind word rest

abbrev plus_of : Result ℕ LineFault → Result ℤ LineFault → Result Bound LineFault
plus_of root number = both root number >>= λ parts. Ok (Plus parts.0 parts.1)

plus_again : (root : ℕ) (z : ℤ) (sign : ℕ) (rest : List ℕ) → is_small root ≡ true → is_constant z ≡ true → offset z ≡ sign ∷ rest → is_sign sign ≡ true
    → bound_of (variable root ++ offset z) ≡ Ok (Plus root z)
plus_again root z sign rest small fits offset_is is =
    let limit = small_is root small in
    let signless : are_signless (variable root) ≡ true =
    and_from _ _ refl (digits_signless (decimal root) (digits_decimal own root (omega arith))) in
    let end : position_or_len is_sign (variable root ++ offset z) ≡ length (variable root) =
    ap (λ more. position_or_len is_sign (variable root ++ more)) offset_is ∙ sign_at (variable root) sign rest signless is in
    ap (plus_at (variable root ++ offset z)) end
    ∙ ap (λ word. plus_of (variable_of word) (offset_of (drop (length (variable root)) (variable root ++ offset z))))
    (take_at (variable root) (offset z) (length (variable root)) refl)
    ∙ ap (λ word. plus_of (variable_of (variable root)) (offset_of word)) (drop_behind (variable root) (offset z))
    ∙ rw (variable_again root small, offset_again z fits) refl

-- the word of a bound says that bound
pub bound_again : (bound : Bound) → is_bound bound ≡ true → bound_of (bound_words bound) ≡ Ok bound
bound_again (Number (pos n)) fits = rw (no_beginning 118 n refl (constant_small n fits), constant_again (pos n) fits) refl
bound_again (Number (negsuc n)) fits = rw (constant_again (negsuc n) fits) refl
bound_again (Plus root (pos n)) fits =
    let parts = and_parts (is_small root) (is_constant (pos n)) fits in
    plus_again root (pos n) 43 (decimal n) parts.0 parts.1 (sym (plus_offset (pos n) (not_below_zero n))) refl
bound_again (Plus root (negsuc n)) fits =
    let parts = and_parts (is_small root) (is_constant (negsuc n)) fits in
    plus_again root (negsuc n) 45 (decimal (suc n)) parts.0 parts.1 (sym (signed_offset (negsuc n) (below_zero n))) refl

-- ---- the bytes of a bound

offset_above : (limit : ℕ) (z : ℤ) → limit < 43 → is_constant z ≡ true → are_above limit (offset z) ≡ true
offset_above limit (pos n) low fits =
    ap (are_above limit) (sym (plus_offset (pos n) (not_below_zero n)))
    ∙ and_from _ _ (byte_above limit 43 low) (constant_above limit (pos n) (omega arith) fits)
offset_above limit (negsuc n) low fits = constant_above limit (negsuc n) (omega arith) fits

pub bound_above : (limit : ℕ) (bound : Bound) → limit < 43 → is_bound bound ≡ true → are_above limit (bound_words bound) ≡ true
bound_above limit (Number z) low fits = constant_above limit z (omega arith) fits
bound_above limit (Plus root z) low fits =
    let parts = and_parts (is_small root) (is_constant z) fits in
    above_append limit (variable root) (offset z) (variable_above limit root (omega arith) parts.0) (offset_above limit z low parts.1)
