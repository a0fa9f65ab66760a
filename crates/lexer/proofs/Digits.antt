-- The digits that a text begins with.
use Rattle.std.proofs.Common.{◌≡◌, ℕ, ◌<◌, ◌≤◌, true, List, length, take, get_or, zero, suc, fold, [], ◌∷◌, ◌+◌, ◌*◌, ◌-◌, All, arith, sym, ◌∙◌, subst}
use Rattle.std.specs.List.{prefix_len, take_while}
use Rattle.std.specs.Char.{is_ascii_digit, IsAsciiDigit}
use Rattle.lexer.specs.Piece.{value_of}
use Rattle.std.proofs.lemmas.List.{get_or-take, length-take}
use Rattle.std.proofs.lemmas.List.Folds.{length-prefix_len}
use Rattle.std.proofs.lemmas.List.Sums.{prefix_len_passes}
use Rattle.std.proofs.lemmas.Bool.Decides.{nat_tests}

digit_is : (c : ℕ) → is_ascii_digit c ≡ true → IsAsciiDigit c
digit_is c h = grind (arith, nat_tests)

-- each byte of the run is a digit
pub all_digits : (xs : List ℕ) (n : ℕ) → n ≡ length (take_while is_ascii_digit xs) → All IsAsciiDigit (take n xs)
all_digits xs n e k d h =
    let m : n ≡ prefix_len is_ascii_digit xs = e ∙ length-prefix_len is_ascii_digit xs in
    let below : k < n = omega (arith, length-take n xs) in
    let same = get_or-take n xs k d below in
    let passes : is_ascii_digit (get_or xs k d) ≡ true = prefix_len_passes is_ascii_digit xs k d (subst (λ m. k < m) m below) in
    subst (λ c. IsAsciiDigit c) (sym same) (digit_is (get_or xs k d) passes)

-- the value of some of the digits is at most that of all
grows : (xs : List ℕ) (v : ℕ) → v ≤ fold (λ value digit. value * 10 + (digit - 48)) v xs
grows [] v = omega arith
grows (x ∷ xs) v = let h = grows xs (v * 10 + (x - 48)) in omega arith

front_from : (xs : List ℕ) (n v : ℕ) → fold (λ value digit. value * 10 + (digit - 48)) v (take n xs) ≤ fold (λ value digit. value * 10 + (digit - 48)) v xs
front_from [] zero v = grows [] v
front_from [] (suc n) v = grows [] v
front_from (x ∷ xs) zero v = grows (x ∷ xs) v
front_from (x ∷ xs) (suc n) v = front_from xs n (v * 10 + (x - 48))

pub value_of_front : (xs : List ℕ) (n : ℕ) → value_of (take n xs) ≤ value_of xs
value_of_front xs n = front_from xs n 0
