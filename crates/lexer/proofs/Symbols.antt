-- The special symbols that a text begins with.
use Rattle.std.proofs.Common.{◌≡◌, ℕ, zero, suc, Bool, true, false, ◌||◌, ◌==◌, List, [], ◌∷◌, length, take, drop, ◌++◌, Result, Ok, Err, Option, Some, None}
use Rattle.std.proofs.Common.{codes, refl, arith, ◌∙◌, ap}
use Rattle.std.specs.Option.{option_map, option_or}
use Rattle.std.specs.List.{list_all}
use Rattle.std.specs.Char.{is_ascii_digit, is_ascii_alphabetic}
use Rattle.std.proofs.lemmas.Bool.{false≢true}
use Rattle.lexer.specs.declared.piece.Piece.{Piece}
use Rattle.lexer.specs.declared.piece.Piece.TheVariants as piece
use Rattle.lexer.specs.declared.piece.Refusal.{Refusal}
use Rattle.lexer.specs.declared.piece.Refusal.TheVariants.{UnknownByte}
use Rattle.lexer.specs.declared.token.Kind.TheVariants as kind
use Rattle.lexer.specs.declared.token.Symbol.{Symbol}
use Rattle.lexer.specs.Spelling.{entry, symbol_of, symbol_table, symbol_at}
use Rattle.lexer.specs.Shape.{Separator, Mark, shape_of, begins, opens_comment}
use Rattle.lexer.specs.Piece.{longest, piece_at}
use Rattle.lexer.proofs.Longest.{NoLonger, longest_none, longest_is}
use Rattle.lexer.proofs.Classes.{and_no, shape_other, shape_blank, shape_blank_more, IsBlank}
use Rattle.lexer.proofs.Strings.{swap}

is_short : List ℕ → Bool
is_short [] = true
is_short (x ∷ []) = true
is_short (x ∷ y ∷ []) = true
is_short (x ∷ y ∷ z ∷ zs) = false

entry_long : {A : Type 0} (table : List (List ℕ × A)) (b c d : ℕ) (ds : List ℕ) → list_all (λ row. is_short row.0) table ≡ true
    → entry table (b ∷ c ∷ d ∷ ds) ≡ None
unfolding is_short
entry_long [] b c d ds h = refl
entry_long (([], a) ∷ rows) b c d ds h = entry_long rows b c d ds h
entry_long ((x ∷ [], a) ∷ rows) b c d ds h = rw and_no (entry_long rows b c d ds h)
entry_long ((x ∷ y ∷ [], a) ∷ rows) b c d ds h = rw (and_no, and_no) (entry_long rows b c d ds h)
entry_long ((x ∷ y ∷ z ∷ zs, a) ∷ rows) b c d ds h = absurd (false≢true h)

symbol_long : (b c d : ℕ) (ds : List ℕ) → symbol_of (b ∷ c ∷ d ∷ ds) ≡ None
unfolding symbol_of is_short
symbol_long b c d ds = entry_long symbol_table b c d ds refl

-- a byte that begins no blank, no name, no number and no string
abbrev pub IsOther : ℕ → Type 0
IsOther b = ((b == 9 || b == 10 || b == 13 || b == 32) ≡ false) × (is_ascii_alphabetic b ≡ false) × (is_ascii_digit b ≡ false) × ((b == 39) ≡ false)

abbrev pub symbol_piece : Option (Symbol × ℕ) → Result (Piece × ℕ) Refusal
symbol_piece None = Err UnknownByte
symbol_piece (Some found) = Ok (piece.Token (kind.Symbol found.0), found.1)

no_quote : (b : ℕ) (bs : List ℕ) → (b == 39) ≡ false → begins (codes "'") (b ∷ bs) ≡ false
no_quote b bs h = let other = swap 39 b ∙ h in rw other refl

shape_here : (b : ℕ) (bs behind : List ℕ) → IsOther b → opens_comment ((b ∷ bs) ++ behind) ≡ false
    → shape_of (b ∷ bs) behind ≡ option_map Mark (symbol_of (b ∷ bs))
shape_here b bs behind o opens = shape_other b bs behind o.0 opens o.1 o.2 o.3

one_from : (b : ℕ) → IsOther b → opens_comment (b ∷ []) ≡ false → (s : Option Symbol) → symbol_of (b ∷ []) ≡ s
    → piece_at (b ∷ []) ≡ symbol_piece (option_map (λ v. (v, 1)) s)
unfolding piece_at
one_from b o opens None e =
    let quote = no_quote b [] o.3 in
    let none : longest 1 (b ∷ []) ≡ None = longest_none 1 (b ∷ []) nothing in
    rw (none, opens, quote) refl
  where
    nothing : NoLonger 0 1 (b ∷ [])
    nothing zero p q = absurd (omega arith)
    nothing (suc zero) p q = shape_here b [] [] o opens ∙ ap (option_map Mark) e
    nothing (suc (suc k)) p q = absurd (omega arith)
one_from b o opens (Some s) e =
    let found : longest 1 (b ∷ []) ≡ Some (1, Mark s) =
    longest_is 1 1 (b ∷ []) (Mark s) (omega arith) (omega arith) (shape_here b [] [] o opens ∙ ap (option_map Mark) e) (λ k p q. absurd (omega arith)) in
    rw found refl

-- of three bytes and more there is no symbol
no_longer : (b c : ℕ) (bs : List ℕ) → IsOther b → opens_comment (b ∷ c ∷ bs) ≡ false → NoLonger 2 (length (b ∷ c ∷ bs)) (b ∷ c ∷ bs)
no_longer b c bs o opens zero p q = absurd (omega arith)
no_longer b c bs o opens (suc zero) p q = absurd (omega arith)
no_longer b c bs o opens (suc (suc zero)) p q = absurd (omega arith)
no_longer b c [] o opens (suc (suc (suc k))) p q = absurd (omega arith)
no_longer b c (d ∷ ds) o opens (suc (suc (suc k))) p q =
    shape_here b (c ∷ d ∷ take k ds) (drop k ds) o opens ∙ ap (option_map Mark) (symbol_long b c d (take k ds))

two_from : (b c : ℕ) (bs : List ℕ) → IsOther b → opens_comment (b ∷ c ∷ bs) ≡ false → (s t : Option Symbol) → symbol_of (b ∷ c ∷ []) ≡ s
    → symbol_of (b ∷ []) ≡ t
    → piece_at (b ∷ c ∷ bs) ≡ symbol_piece (option_or (option_map (λ v. (v, 2)) s) (option_map (λ v. (v, 1)) t))
unfolding piece_at
two_from b c bs o opens (Some s) t e f =
    let found : longest (length (b ∷ c ∷ bs)) (b ∷ c ∷ bs) ≡ Some (2, Mark s) =
    longest_is _ 2 (b ∷ c ∷ bs) (Mark s) (omega arith) (omega arith) (shape_here b (c ∷ []) bs o opens ∙ ap (option_map Mark) e) (no_longer b c bs o opens) in
    rw found refl
two_from b c bs o opens None (Some t) e f =
    let found : longest (length (b ∷ c ∷ bs)) (b ∷ c ∷ bs) ≡ Some (1, Mark t) =
    longest_is _ 1 (b ∷ c ∷ bs) (Mark t) (omega arith) (omega arith) (shape_here b [] (c ∷ bs) o opens ∙ ap (option_map Mark) f) longer in
    rw found refl
  where
    longer : NoLonger 1 (length (b ∷ c ∷ bs)) (b ∷ c ∷ bs)
    longer zero p q = absurd (omega arith)
    longer (suc zero) p q = absurd (omega arith)
    longer (suc (suc zero)) p q = shape_here b (c ∷ []) bs o opens ∙ ap (option_map Mark) e
    longer (suc (suc (suc k))) p q = no_longer b c bs o opens (suc (suc (suc k))) (omega arith) q
two_from b c bs o opens None None e f =
    let quote = no_quote b (c ∷ bs) o.3 in
    let none : longest (length (b ∷ c ∷ bs)) (b ∷ c ∷ bs) ≡ None = longest_none _ (b ∷ c ∷ bs) nothing in
    rw (none, opens, quote) refl
  where
    nothing : NoLonger 0 (length (b ∷ c ∷ bs)) (b ∷ c ∷ bs)
    nothing zero p q = absurd (omega arith)
    nothing (suc zero) p q = shape_here b [] (c ∷ bs) o opens ∙ ap (option_map Mark) f
    nothing (suc (suc zero)) p q = shape_here b (c ∷ []) bs o opens ∙ ap (option_map Mark) e
    nothing (suc (suc (suc k))) p q = no_longer b c bs o opens (suc (suc (suc k))) (omega arith) q

pub nothing_at : piece_at [] ≡ Err UnknownByte
unfolding piece_at
nothing_at = refl

pub other_at : (b : ℕ) (bs : List ℕ) → IsOther b → opens_comment (b ∷ bs) ≡ false → piece_at (b ∷ bs) ≡ symbol_piece (symbol_at (b ∷ bs))
other_at b [] o opens = one_from b o opens _ refl
other_at b (c ∷ bs) o opens = two_from b c bs o opens _ _ refl refl

-- a blank is a separator
pub blank_at : (b : ℕ) (bs : List ℕ) → IsBlank b → piece_at (b ∷ bs) ≡ Ok (piece.Separator, 1)
unfolding piece_at
blank_at b bs h =
    let found : longest (length (b ∷ bs)) (b ∷ bs) ≡ Some (1, Separator) =
    longest_is _ 1 (b ∷ bs) Separator (omega arith) (omega arith) (shape_blank b bs h) (longer bs) in
    rw found refl
  where
    longer : (cs : List ℕ) → NoLonger 1 (length (b ∷ cs)) (b ∷ cs)
    longer cs zero p q = absurd (omega arith)
    longer cs (suc zero) p q = absurd (omega arith)
    longer [] (suc (suc k)) p q = absurd (omega arith)
    longer (c ∷ cs) (suc (suc k)) p q = shape_blank_more b c (take k cs) (drop k cs) h
