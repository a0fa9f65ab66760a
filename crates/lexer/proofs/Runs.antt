-- The digits, or the letters and digits, that a text begins with.
use Rattle.std.proofs.Common.{◌≡◌, ℕ, ◌<◌, ◌≤◌, zero, suc, Bool, true, false, List, [], ◌∷◌, length, take, drop, slice_index, Some, None, ◌⊎◌, inl, inr, refl}
use Rattle.std.proofs.Common.{arith, sym, ◌∙◌, ap, if◌then◌else◌}
use Rattle.std.specs.List.{list_all, prefix_len, take_while}
use Rattle.std.specs.Char.{is_ascii_digit, is_ascii_alphabetic, is_ascii_alphanumeric}
use Rattle.std.proofs.lemmas.Bool.Decides.{nat_tests}
use Rattle.std.proofs.lemmas.List.Folds.{length-prefix_len}
use Rattle.std.proofs.lemmas.List.Sums.{prefix_len-le-length}
use Rattle.lexer.specs.Shape.{Shape, Letters, Digits, shape_of}
use Rattle.lexer.specs.Piece.{longest, piece_at, piece_of, with_length}
use Rattle.lexer.proofs.Longest.{NoLonger, longest_is}
use Rattle.lexer.proofs.Classes.{plain, shape_plain, digit_plain, capital_plain, small_plain}

run_step : (p : ℕ → Bool) (x : ℕ) (xs : List ℕ) → p x ≡ true → prefix_len p (x ∷ xs) ≡ suc (prefix_len p xs)
run_step p x xs e = rw e (omega arith)

all_step : (p : ℕ → Bool) (x : ℕ) (xs : List ℕ) (t : Bool) → p x ≡ t → list_all p (take (prefix_len p xs) xs) ≡ true
    → list_all p (take (prefix_len p (x ∷ xs)) (x ∷ xs)) ≡ true
all_step p x xs true e ih = rw (run_step p x xs e) (rw e ih)
all_step p x xs false e ih = rw e refl

run_all : (p : ℕ → Bool) (xs : List ℕ) → list_all p (take (prefix_len p xs) xs) ≡ true
run_all p [] = refl
run_all p (x ∷ xs) = all_step p x xs (p x) refl (run_all p xs)

longer_step : (p : ℕ → Bool) (x : ℕ) (xs : List ℕ) (k : ℕ) (t : Bool) → p x ≡ t → prefix_len p (x ∷ xs) < suc k
    → (prefix_len p xs < k → list_all p (take k xs) ≡ false) → list_all p (x ∷ take k xs) ≡ false
longer_step p x xs k true e q ih = let s = run_step p x xs e in rw e (ih (omega arith))
longer_step p x xs k false e q ih = rw e refl

run_longer : (p : ℕ → Bool) (xs : List ℕ) (k : ℕ) → prefix_len p xs < k → k ≤ length xs → list_all p (take k xs) ≡ false
run_longer p [] k q r = absurd (omega arith)
run_longer p (x ∷ xs) zero q r = absurd (omega arith)
run_longer p (x ∷ xs) (suc k) q r = longer_step p x xs k (p x) refl q (λ h. run_longer p xs k h (omega arith))

-- the bytes of a run have a shape, and no others that begin with its first byte
abbrev RunShape : (ℕ → Bool) → Shape → ℕ → Type 0
RunShape p s b = (bs behind : List ℕ) → shape_of (b ∷ bs) behind ≡ (if list_all p (b ∷ bs) then Some s else None)

run_longest : (p : ℕ → Bool) (s : Shape) (b : ℕ) (bs : List ℕ) → RunShape p s b → p b ≡ true
    → longest (length (b ∷ bs)) (b ∷ bs) ≡ Some (prefix_len p (b ∷ bs), s)
run_longest p s b bs shape first =
    let n : prefix_len p (b ∷ bs) ≡ suc (prefix_len p bs) = run_step p b bs first in
    let all : list_all p (b ∷ take (prefix_len p bs) bs) ≡ true = rw first (run_all p bs) in
    let fits = prefix_len-le-length p bs in
    let here : shape_of (take (suc (prefix_len p bs)) (b ∷ bs)) (drop (suc (prefix_len p bs)) (b ∷ bs)) ≡ Some s = shape (take (prefix_len p bs) bs)
    (drop (prefix_len p bs) bs) ∙ ap (λ t. if t then Some s else None) all in
    rw n (longest_is (length (b ∷ bs)) (suc (prefix_len p bs)) (b ∷ bs) s (omega arith) (omega arith) here longer)
  where
    longer : NoLonger (suc (prefix_len p bs)) (length (b ∷ bs)) (b ∷ bs)
    longer zero q r = absurd (omega arith)
    longer (suc k) q r = shape (take k bs) (drop k bs) ∙ ap (λ t. if t then Some s else None)
        (run_longer p (b ∷ bs) (suc k) (let n = run_step p b bs first in omega arith) r)

letter_plain : (b : ℕ) → is_ascii_alphabetic b ≡ true → plain b ≡ true
letter_plain b h = go (letter_cases b h)
  where
    letter_cases : (c : ℕ) → is_ascii_alphabetic c ≡ true → ((65 ≤ c) × (c ≤ 90)) ⊎ ((97 ≤ c) × (c ≤ 122))
    letter_cases c e = grind (arith, nat_tests)

    go : ((65 ≤ b) × (b ≤ 90)) ⊎ ((97 ≤ b) × (b ≤ 122)) → plain b ≡ true
    go (inl q) = capital_plain b q.0 q.1
    go (inr q) = small_plain b q.0 q.1

digit_low : (b : ℕ) → is_ascii_digit b ≡ true → 48 ≤ b
digit_low b h = grind (arith, nat_tests)

digit_high : (b : ℕ) → is_ascii_digit b ≡ true → b ≤ 57
digit_high b h = grind (arith, nat_tests)

digit_no_letter : (b : ℕ) → is_ascii_digit b ≡ true → is_ascii_alphabetic b ≡ false
digit_no_letter b h = grind (arith, nat_tests)

letter_no_digit : (b : ℕ) → is_ascii_alphabetic b ≡ true → is_ascii_digit b ≡ false
letter_no_digit b h = grind (arith, nat_tests)

letter_or_digit : (b : ℕ) → is_ascii_alphabetic b ≡ true → is_ascii_alphanumeric b ≡ true
letter_or_digit b h = grind (arith, nat_tests)

shape_digits : (b : ℕ) → is_ascii_digit b ≡ true → RunShape is_ascii_digit Digits b
shape_digits b h bs behind =
    shape_plain b bs behind (digit_plain b (digit_low b h) (digit_high b h)) ∙ rw (digit_no_letter b h) refl

shape_letters : (b : ℕ) → is_ascii_alphabetic b ≡ true → RunShape is_ascii_alphanumeric Letters b
shape_letters b h bs behind =
    shape_plain b bs behind (letter_plain b h) ∙ rw (h, letter_or_digit b h, letter_no_digit b h) refl

run_length : (p : ℕ → Bool) (xs : List ℕ) → length (take_while p xs) ≡ prefix_len p xs
run_length p xs = length-prefix_len p xs

pub digits_at : (text : List ℕ) (n : ℕ) → is_ascii_digit (slice_index text 0) ≡ true → n ≡ length (take_while is_ascii_digit text)
    → piece_at text ≡ with_length n (piece_of Digits (take n text) (drop n text))
unfolding piece_at
digits_at [] n h e = cc
digits_at (b ∷ bs) n h e =
    let m : prefix_len is_ascii_digit (b ∷ bs) ≡ n = sym (e ∙ run_length is_ascii_digit (b ∷ bs)) in
    let found : longest (length (b ∷ bs)) (b ∷ bs) ≡ Some (n, Digits) = run_longest is_ascii_digit Digits b bs (shape_digits b h) h ∙ ap
    (λ k. Some (k, Digits)) m in
    rw found refl

pub letters_at : (text : List ℕ) (n : ℕ) → is_ascii_alphabetic (slice_index text 0) ≡ true → n ≡ length (take_while is_ascii_alphanumeric text)
    → piece_at text ≡ with_length n (piece_of Letters (take n text) (drop n text))
unfolding piece_at
letters_at [] n h e = cc
letters_at (b ∷ bs) n h e =
    let m : prefix_len is_ascii_alphanumeric (b ∷ bs) ≡ n = sym (e ∙ run_length is_ascii_alphanumeric (b ∷ bs)) in
    let found : longest (length (b ∷ bs)) (b ∷ bs) ≡ Some (n, Letters) =
    run_longest is_ascii_alphanumeric Letters b bs (shape_letters b h) (letter_or_digit b h) ∙ ap (λ k. Some (k, Letters)) m in
    rw found refl
