-- Words parted by blanks.
use Rattle.std.proofs.Common.{◌≡◌, ℕ, suc, ◌+◌, ◌<◌, Bool, true, false, cond, nat_lt, ◌==◌, List, [], ◌∷◌, ◌++◌, length, take, drop, get_or, Option, Some}
use Rattle.std.proofs.Common.{None, refl, sym, ap, subst, ◌∙◌, arith}
use Rattle.std.specs.List.{list_all, position, position_or_len}
use Rattle.std.specs.Char.{is_ascii_digit}
use Rattle.std.specs.Str.{bytes_eq}
use Rattle.std.proofs.lemmas.Bool.{and_parts, eqb-true, lt-ltb, ne_eqb}
use Rattle.std.proofs.lemmas.Bool.Decides.{nat_tests}
use Rattle.std.proofs.lemmas.List.Quantifiers.{position-Some}
use Rattle.std.proofs.lemmas.List.{drop_more, length-append, take-append-drop, take_at}
use Rattle.std.proofs.lemmas.Slice.Eq.{bytes_eq-Decides}
use Rattle.text_lines.specs.Words.{behind, parted, parted_at}
use Rattle.text_lines.proofs.Bytes.{are_above}

pub some_is : {A : Type 0} (x y : A) → (let r : Option A = Some x in r ≡ Some y) → x ≡ y
some_is x y e = cc

-- ---- beginnings

behind_test : (word text rest : List ℕ) (same : Bool) → bytes_eq (take (length word) text) word ≡ same
    → cond same (Some (drop (length word) text)) None ≡ Some rest → text ≡ word ++ rest
behind_test word text rest true is e =
    sym (take-append-drop (length word) text) ∙ ap (λ front. front ++ drop (length word) text) ((bytes_eq-Decides _ word).0 is) ∙ ap (λ more. word ++ more) cc
behind_test word text rest false is e = absurd cc

pub behind_some : (word text rest : List ℕ) → behind word text ≡ Some rest → text ≡ word ++ rest
behind_some word text rest e = behind_test word text rest _ refl e

-- digits begin with a digit and with no other byte
other_byte : (first byte : ℕ) → is_ascii_digit first ≡ true → is_ascii_digit byte ≡ false → first ≡ byte → ⊥
other_byte first byte digit other same = let h : is_ascii_digit byte ≡ true = subst (λ c. is_ascii_digit c ≡ true) same digit in absurd cc

pub no_first : (byte : ℕ) (word : List ℕ) → is_ascii_digit byte ≡ false → 0 < length word → list_all is_ascii_digit word ≡ true
    → behind (byte ∷ []) word ≡ None
no_first byte [] other some digits = absurd (omega arith)
no_first byte (first ∷ more) other some digits =
    let digit = (and_parts (is_ascii_digit first) _ digits).0 in
    rw (ne_eqb first byte (λ same. absurd (other_byte first byte digit other same))) refl

-- ---- what is parted

one_more : (n : ℕ) → n + 1 ≡ suc n
one_more n = omega arith

pub front_part : (words : List ℕ) (o : Option ℕ) (a b : List ℕ) → position (λ byte. byte == 32) words ≡ o → parted_at words o ≡ Some (a, b)
    → words ≡ a ++ 32 ∷ b
front_part words None a b is e = absurd cc
front_part words (Some end) a b is e =
    let found = position-Some (λ byte. byte == 32) words end 0 is in
    let same = some_is (take end words, drop (suc end) words) (a, b) e in
    let tail : drop end words ≡ get_or words end 0 ∷ drop (suc end) words =
    drop_more words end 0 found.0 ∙ ap (λ k. get_or words end 0 ∷ drop k words) (one_more end) in
    let whole : words ≡ take end words ++ get_or words end 0 ∷ drop (suc end) words =
    sym (take-append-drop end words) ∙ ap (λ rest. take end words ++ rest) tail in
    whole ∙ ap (λ byte. take end words ++ byte ∷ drop (suc end) words) (eqb-true _ 32 found.1) ∙ ap (λ p. p.0 ++ 32 ∷ p.1) same

pub parted-spelled : (words a b : List ℕ) → parted words ≡ Some (a, b) → words ≡ a ++ 32 ∷ b
parted-spelled words a b e = front_part words _ a b refl e

blank_at : (word rest : List ℕ) → are_above 32 word ≡ true → position_or_len (λ byte. byte == 32) (word ++ 32 ∷ rest) ≡ length word
blank_at [] rest above = refl
blank_at (byte ∷ word) rest above =
    let parts = and_parts (nat_lt 32 byte) _ above in
    let other : byte == 32 ≡ false = grind (arith, nat_tests) in
    rw (other, blank_at word rest parts.1) (omega arith)

pub drop_past : (word rest : List ℕ) → drop (suc (length word)) (word ++ 32 ∷ rest) ≡ rest
drop_past [] rest = refl
drop_past (byte ∷ word) rest = drop_past word rest

pub blank_found : (word rest : List ℕ) → are_above 32 word ≡ true → position (λ byte. byte == 32) (word ++ 32 ∷ rest) ≡ Some (length word)
blank_found word rest above =
    let inside : nat_lt (length word) (length (word ++ 32 ∷ rest)) ≡ true = lt-ltb _ _ (omega (arith, length-append word (32 ∷ rest))) in
    rw (blank_at word rest above, inside) refl

pub word_before : (word rest : List ℕ) → take (length word) (word ++ 32 ∷ rest) ≡ word
word_before word rest = take_at word (32 ∷ rest) (length word) refl

pub parted-again : (word rest : List ℕ) → are_above 32 word ≡ true → parted (word ++ 32 ∷ rest) ≡ Some (word, rest)
parted-again word rest above =
    ap (parted_at (word ++ 32 ∷ rest)) (blank_found word rest above) ∙ rw (word_before word rest, drop_past word rest) refl

blank_none : (word : List ℕ) → are_above 32 word ≡ true → position_or_len (λ byte. byte == 32) word ≡ length word
blank_none [] above = refl
blank_none (byte ∷ word) above =
    let parts = and_parts (nat_lt 32 byte) _ above in
    let other : byte == 32 ≡ false = grind (arith, nat_tests) in
    rw (other, blank_none word parts.1) (omega arith)

not_within : (n : ℕ) → nat_lt n n ≡ false
not_within n = grind (arith, nat_tests)

pub blank_missed : (word : List ℕ) → are_above 32 word ≡ true → position (λ byte. byte == 32) word ≡ None
blank_missed word above = rw (blank_none word above, not_within (length word)) refl
