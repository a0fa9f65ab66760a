-- The shapes that bytes can have by the first of them.
use Rattle.std.proofs.Common.{◌≡◌, ℕ, ◌<◌, ◌≤◌, ◌+◌, zero, suc, Bool, true, false, not, ◌&&◌, ◌||◌, ◌==◌, nat_eq, List, [], ◌∷◌, ◌++◌, Some, None, codes, refl}
use Rattle.std.proofs.Common.{◌⊎◌, inl, inr, arith, sym, subst, if◌then◌else◌}
use Rattle.std.specs.Option.{option_map}
use Rattle.std.specs.List.{list_all}
use Rattle.std.specs.Char.{is_ascii_digit, is_ascii_alphabetic}
use Rattle.std.proofs.lemmas.Bool.{false≢true}
use Rattle.std.proofs.Math.Dec.{eqb-suc-zero}
use Rattle.std.proofs.Math.Nat.{eq-or-lt_of_le}
use Rattle.lexer.specs.Spelling.{entry, symbol_of, symbol_table}
use Rattle.lexer.specs.Shape.{Separator, Letters, Digits, Quoted, Mark, shape_of, is_comment, is_letters, is_digits, ends_comment, ends_string, opens_comment}
use Rattle.lexer.specs.Shape.{begins}

pub and_no : (a : Bool) → (a && false) ≡ false
and_no true = refl
and_no false = refl

pub not_is : (a : Bool) → not a ≡ true → a ≡ false
not_is true h = absurd (false≢true h)
not_is false h = refl

pub and_first : (a b : Bool) → (a && b) ≡ true → a ≡ true
and_first true b h = refl
and_first false b h = h

pub and_second : (a b : Bool) → (a && b) ≡ true → b ≡ true
and_second true b h = h
and_second false b h = absurd (false≢true h)

-- bytes that begin with a mark that opens a comment, and with half of one
pub shape_brace : (bs behind : List ℕ) → shape_of (123 ∷ bs) behind ≡ (if ends_comment bs then Some Separator else None)
unfolding shape_of
shape_brace bs behind = rw and_no (go (ends_comment bs))
  where
    go : (t : Bool) → (if t || false then Some Separator else None) ≡ (if t then Some Separator else None)
    go true = refl
    go false = refl

pub shape_star : (bs behind : List ℕ) → shape_of (40 ∷ 42 ∷ bs) behind ≡ (if ends_comment bs then Some Separator else None)
unfolding shape_of
shape_star bs behind = rw and_no refl

pub shape_half : (behind : List ℕ) → shape_of (40 ∷ []) (42 ∷ behind) ≡ None
unfolding shape_of
shape_half behind = refl

pub shape_quote : (bs behind : List ℕ) → shape_of (39 ∷ bs) behind ≡ (if ends_string bs && not (begins (codes "'") behind) then Some Quoted else None)
unfolding shape_of symbol_of
shape_quote bs behind = rw and_no refl

-- a byte that begins no comment, no string and no symbol
pub first_differs : List ℕ → ℕ → Bool
first_differs [] b = false
first_differs (x ∷ xs) b = not (nat_eq x b)

abbrev pub no_symbol : ℕ → Bool
no_symbol b = list_all (λ row. first_differs row.0 b) symbol_table

abbrev pub plain : ℕ → Bool
plain b = not (b == 9 || b == 10 || b == 13 || b == 32) && (not (nat_eq 123 b) && (not (nat_eq 40 b) && (not (b == 39) && no_symbol b)))

entry_none : {A : Type 0} (table : List (List ℕ × A)) (b : ℕ) (bs : List ℕ) → list_all (λ row. first_differs row.0 b) table ≡ true → entry table (b ∷ bs) ≡ None
unfolding first_differs
entry_none [] b bs h = refl
entry_none (([], a) ∷ rows) b bs h = absurd (false≢true h)
entry_none ((x ∷ xs, a) ∷ rows) b bs h =
    let e : nat_eq x b ≡ false = not_is _ (and_first _ _ h) in
    rw e (entry_none rows b bs (and_second _ _ h))

symbol_none : (b : ℕ) (bs : List ℕ) → no_symbol b ≡ true → symbol_of (b ∷ bs) ≡ None
unfolding symbol_of
symbol_none b bs h = entry_none symbol_table b bs h

pub shape_plain : (b : ℕ) (bs behind : List ℕ) → plain b ≡ true
    → shape_of (b ∷ bs) behind ≡ (if is_letters (b ∷ bs) then Some Letters else (if is_digits (b ∷ bs) then Some Digits else None))
unfolding shape_of
shape_plain b bs behind h =
    let blank : (b == 9 || b == 10 || b == 13 || b == 32) ≡ false = not_is _ (and_first _ _ h) in
    let h1 = and_second _ _ h in
    let brace : nat_eq 123 b ≡ false = not_is _ (and_first _ _ h1) in
    let h2 = and_second _ _ h1 in
    let open_mark : nat_eq 40 b ≡ false = not_is _ (and_first _ _ h2) in
    let h3 = and_second _ _ h2 in
    let quote : (b == 39) ≡ false = not_is _ (and_first _ _ h3) in
    let symbol : symbol_of (b ∷ bs) ≡ None = symbol_none b bs (and_second _ _ h3) in
    rw (blank, and_no, brace, open_mark, quote, symbol) refl

-- a test of numbers that follow one another
every : ℕ → ℕ → (ℕ → Bool) → Bool
every lo zero p = true
every lo (suc n) p = p lo && every (suc lo) n p

every_at : (lo n : ℕ) (p : ℕ → Bool) → every lo n p ≡ true → (b : ℕ) → lo ≤ b → b < lo + n → p b ≡ true
unfolding every
every_at lo zero p h b q r = absurd (omega arith)
every_at lo (suc n) p h b q r = elim (eq-or-lt_of_le q) [
  | inl same ↦ subst (λ k. p k ≡ true) same (and_first _ _ h)
  | inr less ↦ every_at (suc lo) n p (and_second _ _ h) b less (omega arith)
]

pub digit_plain : (b : ℕ) → 48 ≤ b → b ≤ 57 → plain b ≡ true
unfolding every first_differs
digit_plain b q r = every_at 48 10 plain refl b q (omega arith)

pub capital_plain : (b : ℕ) → 65 ≤ b → b ≤ 90 → plain b ≡ true
unfolding every first_differs
capital_plain b q r = every_at 65 26 plain refl b q (omega arith)

pub small_plain : (b : ℕ) → 97 ≤ b → b ≤ 122 → plain b ≡ true
unfolding every first_differs
small_plain b q r = every_at 97 26 plain refl b q (omega arith)

-- blanks
abbrev pub IsBlank : ℕ → Type 0
IsBlank b = (b ≡ 9) ⊎ (b ≡ 10) ⊎ (b ≡ 13) ⊎ (b ≡ 32)

pub shape_blank : (b : ℕ) (behind : List ℕ) → IsBlank b → shape_of (b ∷ []) behind ≡ Some Separator
unfolding shape_of
shape_blank b behind (inl e) = subst (λ v. shape_of (v ∷ []) behind ≡ Some Separator) (sym e) refl
shape_blank b behind (inr (inl e)) = subst (λ v. shape_of (v ∷ []) behind ≡ Some Separator) (sym e) refl
shape_blank b behind (inr (inr (inl e))) = subst (λ v. shape_of (v ∷ []) behind ≡ Some Separator) (sym e) refl
shape_blank b behind (inr (inr (inr e))) = subst (λ v. shape_of (v ∷ []) behind ≡ Some Separator) (sym e) refl

pub shape_blank_more : (b c : ℕ) (bs behind : List ℕ) → IsBlank b → shape_of (b ∷ c ∷ bs) behind ≡ None
unfolding shape_of symbol_of
shape_blank_more b c bs behind (inl e) = subst (λ v. shape_of (v ∷ c ∷ bs) behind ≡ None) (sym e) (rw eqb-suc-zero refl)
shape_blank_more b c bs behind (inr (inl e)) = subst (λ v. shape_of (v ∷ c ∷ bs) behind ≡ None) (sym e) (rw eqb-suc-zero refl)
shape_blank_more b c bs behind (inr (inr (inl e))) = subst (λ v. shape_of (v ∷ c ∷ bs) behind ≡ None) (sym e) (rw eqb-suc-zero refl)
shape_blank_more b c bs behind (inr (inr (inr e))) = subst (λ v. shape_of (v ∷ c ∷ bs) behind ≡ None) (sym e) (rw eqb-suc-zero refl)

or_no : (a c e f : Bool) → (a || c) ≡ false → ((a && e) || (c && f)) ≡ false
or_no true c e f h = absurd (false≢true (sym h))
or_no false true e f h = absurd (false≢true (sym h))
or_no false false e f h = refl

pub no_comment : (bytes behind : List ℕ) → opens_comment (bytes ++ behind) ≡ false → is_comment bytes ≡ false
no_comment [] behind h = refl
no_comment (b ∷ []) behind h = go (nat_eq 123 b && true) (nat_eq 40 b)
  where
    go : (t u : Bool) → ((t && false) || ((u && false) && ends_comment [])) ≡ false
    go true true = refl
    go true false = refl
    go false true = refl
    go false false = refl
no_comment (b ∷ c ∷ bs) behind h =
    or_no (begins (codes "{") (b ∷ c ∷ bs)) (begins (codes "(*") (b ∷ c ∷ bs)) (ends_comment (c ∷ bs)) (ends_comment bs) h

pub shape_other : (b : ℕ) (bs behind : List ℕ) → (b == 9 || b == 10 || b == 13 || b == 32) ≡ false → opens_comment ((b ∷ bs) ++ behind) ≡ false
    → is_ascii_alphabetic b ≡ false → is_ascii_digit b ≡ false → (b == 39) ≡ false → shape_of (b ∷ bs) behind ≡ option_map Mark (symbol_of (b ∷ bs))
unfolding shape_of
shape_other b bs behind blank opens letter digit quote =
    let comment : is_comment (b ∷ bs) ≡ false = no_comment (b ∷ bs) behind opens in
    rw (blank, and_no, comment, opens, letter, digit, quote) refl
