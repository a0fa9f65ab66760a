-- What digits are as a piece.
use Rattle.std.proofs.Common.{◌≡◌, ℕ, ◌<◌, ◌≤◌, zero, suc, Bool, true, false, nat_lt, List, [], ◌∷◌, length, drop, slice_index, Ok, Err, refl, arith, sym, ap}
use Rattle.std.specs.Char.{is_ascii_alphabetic}
use Rattle.std.proofs.lemmas.Bool.Decides.{nat_tests}
use Rattle.std.proofs.Math.ListN.{drop_of_length-le}
use Rattle.lexer.specs.declared.piece.Piece.TheVariants as piece
use Rattle.lexer.specs.declared.piece.Refusal.TheVariants.{LargeNumber, TouchingLetter}
use Rattle.lexer.specs.declared.token.Kind.TheVariants as kind
use Rattle.lexer.specs.Shape.{Digits}
use Rattle.lexer.specs.Piece.{piece_of, with_length, value_of, begins_with_letter}

above : (v : ℕ) → 2147483647 < v → nat_lt 2147483647 v ≡ true
above v h = grind (arith, nat_tests)

within : (v : ℕ) → v ≤ 2147483647 → nat_lt 2147483647 v ≡ false
within v h = grind (arith, nat_tests)

pub number_large : (n : ℕ) (digits behind : List ℕ) → 2147483647 < value_of digits → with_length n (piece_of Digits digits behind) ≡ Err LargeNumber
number_large n digits behind h = rw (above (value_of digits) h) refl

pub number_touches : (n : ℕ) (digits behind : List ℕ) (v : ℕ) → v ≡ value_of digits → v ≤ 2147483647 → begins_with_letter behind ≡ true
    → with_length n (piece_of Digits digits behind) ≡ Err TouchingLetter
number_touches n digits behind v e h t = let w : value_of digits ≤ 2147483647 = omega arith in rw (within (value_of digits) w, t) refl

pub number_taken : (n : ℕ) (digits behind : List ℕ) (v : ℕ) → v ≡ value_of digits → v ≤ 2147483647 → begins_with_letter behind ≡ false
    → with_length n (piece_of Digits digits behind) ≡ Ok (piece.Token (kind.Number v), n)
number_taken n digits behind v e h t =
    let w : value_of digits ≤ 2147483647 = omega arith in
    rw (within (value_of digits) w, t) (ap (λ u. Ok (piece.Token (kind.Number u), n)) (sym e))

pub letter_behind : (text : List ℕ) (n : ℕ) (t : Bool) → n < length text → is_ascii_alphabetic (slice_index text n) ≡ t → begins_with_letter (drop n text) ≡ t
letter_behind [] n t p h = absurd (omega arith)
letter_behind (b ∷ bs) zero t p h = h
letter_behind (b ∷ bs) (suc n) t p h = letter_behind bs n t (omega arith) h

pub nothing_behind : (text : List ℕ) (n : ℕ) → length text ≤ n → begins_with_letter (drop n text) ≡ false
nothing_behind text n p = ap begins_with_letter (drop_of_length-le text p)
