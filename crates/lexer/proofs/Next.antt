-- What a text begins with, by tests of its front.
use Rattle.std.proofs.Common.{◌≡◌, ℕ, Bool, true, false, ◌||◌, ◌==◌, ◌⊎◌, inl, inr, List, [], ◌∷◌, length, slice_index, Ok, Err, codes, refl, arith}
use Rattle.std.specs.Char.{is_ascii_digit, is_ascii_alphabetic}
use Rattle.std.proofs.lemmas.Bool.{false_from_ne_true, eqb-true}
use Rattle.lexer.specs.declared.piece.Piece.TheVariants as piece
use Rattle.lexer.specs.declared.piece.Refusal.TheVariants.{UnknownByte}
use Rattle.lexer.specs.Spelling.{symbol_at}
use Rattle.lexer.specs.Shape.{begins, opens_comment, is_blank_byte}
use Rattle.lexer.specs.Piece.{piece_at}
use Rattle.lexer.proofs.Classes.{IsBlank}
use Rattle.lexer.proofs.Symbols.{symbol_piece, nothing_at, blank_at, other_at}

or_cases : (a b : Bool) → (a || b) ≡ true → (a ≡ true) ⊎ (b ≡ true)
or_cases true b h = inl refl
or_cases false b h = inr h

blank_is : (b : ℕ) → is_blank_byte b ≡ true → IsBlank b
blank_is b h = elim (or_cases (b == 9 || b == 10 || b == 13) (b == 32) h) [
  | inr e ↦ inr (inr (inr (eqb-true b 32 e)))
  | inl f ↦ elim (or_cases (b == 9 || b == 10) (b == 13) f) [
    | inr e ↦ inr (inr (inl (eqb-true b 13 e)))
    | inl g ↦ elim (or_cases (b == 9) (b == 10) g) [ inr e ↦ inr (inl (eqb-true b 10 e)) | inl e ↦ inl (eqb-true b 9 e) ]
  ]
]

pub blank_here : (text : List ℕ) → (length text ≡ 0 → ⊥) → is_blank_byte (slice_index text 0) ≡ true → piece_at text ≡ Ok (piece.Separator, 1)
blank_here [] p h = absurd (p refl)
blank_here (b ∷ bs) p h = blank_at b bs (blank_is b h)

no_opening : (text : List ℕ) → begins (codes "{") text ≡ false → begins (codes "(*") text ≡ false → opens_comment text ≡ false
no_opening text h k = rw (h, k) refl

pub symbol_here : (text : List ℕ) → (length text ≡ 0 → ⊥) → is_blank_byte (slice_index text 0) ≡ false → begins (codes "{") text ≡ false
    → begins (codes "(*") text ≡ false
    → (slice_index text 0 ≡ 39 → ⊥) → is_ascii_digit (slice_index text 0) ≡ false → is_ascii_alphabetic (slice_index text 0) ≡ false
    → piece_at text ≡ symbol_piece (symbol_at text)
symbol_here [] p blank brace star quote digit letter = absurd (p refl)
symbol_here (b ∷ bs) p blank brace star quote digit letter = other_at b bs (blank, letter, digit, false_from_ne_true _ (λ e. quote (eqb-true b 39 e)))
    (no_opening (b ∷ bs) brace star)

pub nothing_here : (text : List ℕ) → length text ≡ 0 → piece_at text ≡ Err UnknownByte
nothing_here [] h = nothing_at
nothing_here (b ∷ bs) h = absurd (omega arith)
