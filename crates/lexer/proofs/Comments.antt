-- Where a comment ends.
use Rattle.std.proofs.Common.{◌≡◌, ℕ, ◌<◌, ◌≤◌, ◌+◌, zero, suc, Bool, true, false, ◌&&◌, ◌==◌, nat_eq, List, [], ◌∷◌, length, take, drop, inl, inr, Result, Ok}
use Rattle.std.proofs.Common.{Err, Option, Some, None, codes, add-one, refl, subst, arith, sym, ◌∙◌, ap, if◌then◌else◌}
use Rattle.std.specs.Option.{option_map}
use Rattle.std.proofs.lemmas.Bool.{false≢true, false_from_ne_true, eqb-true}
use Rattle.std.proofs.Math.Dec.{eqb-suc-zero}
use Rattle.std.proofs.lemmas.List.{length-take}
use Rattle.lexer.specs.declared.piece.Piece.{Piece}
use Rattle.lexer.specs.declared.piece.Piece.TheVariants as piece
use Rattle.lexer.specs.declared.piece.Refusal.{Refusal}
use Rattle.lexer.specs.declared.piece.Refusal.TheVariants.{OpenComment}
use Rattle.lexer.specs.Shape.{Opens, Separator, shape_of, begins, ends_comment}
use Rattle.lexer.specs.Piece.{longest, piece_at}
use Rattle.lexer.proofs.Ends.{counted, shifted, none_same, some_same}
use Rattle.lexer.proofs.Longest.{NoLonger, longest_none, longest_is}
use Rattle.lexer.proofs.Classes.{and_first, and_second, shape_brace, shape_star, shape_half}

-- how many bytes stand up to the end of the first closing mark
abbrev pub comment_end : List ℕ → Option ℕ
comment_end [] = None
comment_end (b ∷ bs) = if begins (codes "}") (b ∷ bs) then Some 1 else (if begins (codes "*)") (b ∷ bs) then Some 2 else option_map suc (comment_end bs))

last_only : (t u : Bool) → (if t && true then true else (if u && false then false else false)) ≡ true
    → (if t && true then counted 1 else (if u && false then counted 2 else None)) ≡ counted 1
last_only true u h = refl
last_only false true h = absurd (false≢true h)
last_only false false h = absurd (false≢true h)

first_only : (t u v : Bool) (o : Option ℕ) → (if t && true then true else (if u && false then false else false)) ≡ true
    → (if t && true then counted 1 else (if u && v then counted 2 else o)) ≡ counted 1
first_only true u v o h = refl
first_only false true v o h = absurd (false≢true h)
first_only false false v o h = absurd (false≢true h)

later : (t u v : Bool) (j : ℕ) (cs : List ℕ) (e : Bool) (o : Option ℕ) → j ≤ length cs → (e ≡ true → o ≡ Some (suc j))
    → (if t && true then suc (length (take j cs)) == 0 else (if u && (v && true) then suc (length (take j cs)) == 1 else e)) ≡ true
    → (if t && true then counted 1 else (if u && (v && true) then counted 2 else option_map suc o)) ≡ Some (suc (suc j))
later true u v j cs e o p ih h = absurd (false≢true (sym (eqb-suc-zero _) ∙ h))
later false true true j cs e o p ih h =
    let none : suc (length (take j cs)) ≡ 1 = eqb-true _ _ h in
    let zeroth : j ≡ 0 = omega (arith, length-take j cs) in
    rw zeroth refl
later false true false j cs e o p ih h = rw (ih h) refl
later false false v j cs e o p ih h = rw (ih h) refl

pub comment_unique : (bs : List ℕ) (k : ℕ) → k ≤ length bs → ends_comment (take k bs) ≡ true → comment_end bs ≡ Some k
comment_unique [] zero p h = absurd (false≢true h)
comment_unique [] (suc k) p h = absurd (false≢true h)
comment_unique (b ∷ bs) zero p h = absurd (false≢true h)
comment_unique (b ∷ []) (suc zero) p h = last_only (nat_eq 125 b) (nat_eq 42 b) h
comment_unique (b ∷ []) (suc (suc k)) p h = absurd (omega arith)
comment_unique (b ∷ c ∷ cs) (suc zero) p h = first_only (nat_eq 125 b) (nat_eq 42 b) (nat_eq 41 c && true) (option_map suc (comment_end (c ∷ cs))) h
comment_unique (b ∷ c ∷ cs) (suc (suc j)) p h =
    later (nat_eq 125 b) (nat_eq 42 b) (nat_eq 41 c) j cs (ends_comment (c ∷ take j cs)) (comment_end (c ∷ cs)) (omega arith)
    (comment_unique (c ∷ cs) (suc j) (omega arith)) h

abbrev Sound : List ℕ → ℕ → Type 0
Sound bs k = (0 < k) × (k ≤ length bs) × (ends_comment (take k bs) ≡ true)

sound_last : (b : ℕ) (t u : Bool) → nat_eq 125 b ≡ t → nat_eq 42 b ≡ u → (k : ℕ) → comment_end (b ∷ []) ≡ Some k → Sound (b ∷ []) k
sound_last b true u et eu k h =
    let first : counted 1 ≡ Some k = rw et at h in
    let one : k ≡ 1 = cc in
    (omega arith, omega arith, rw (one, et) refl)
sound_last b false true et eu k h =
    let none : ◌≡◌ {A = Option ℕ} None (Some k) = rw (et, eu) at h in cc
sound_last b false false et eu k h =
    let none : ◌≡◌ {A = Option ℕ} None (Some k) = rw (et, eu) at h in cc

sound_rest : (b c : ℕ) (cs : List ℕ) → nat_eq 125 b ≡ false → (nat_eq 42 b && (nat_eq 41 c && true)) ≡ false → (o : Option ℕ)
    → ((n : ℕ) → o ≡ Some n → Sound (c ∷ cs) n)
    → (k : ℕ) → option_map suc o ≡ Some k → Sound (b ∷ c ∷ cs) k
sound_rest b c cs et ev None ih k h = cc
sound_rest b c cs et ev (Some zero) ih k h = let s = ih 0 refl in absurd (omega arith)
sound_rest b c cs et ev (Some (suc m)) ih k h =
    let s = ih (suc m) refl in
    let next : k ≡ suc (suc m) = cc in
    (omega arith, omega arith, rw (next, et, ev) s.2)

sound_step : (b c : ℕ) (cs : List ℕ) (t u : Bool) → nat_eq 125 b ≡ t → (nat_eq 42 b && (nat_eq 41 c && true)) ≡ u
    → ((n : ℕ) → comment_end (c ∷ cs) ≡ Some n → Sound (c ∷ cs) n)
    → (k : ℕ) → comment_end (b ∷ c ∷ cs) ≡ Some k → Sound (b ∷ c ∷ cs) k
sound_step b c cs true u et ev ih k h =
    let first : counted 1 ≡ Some k = rw et at h in
    let one : k ≡ 1 = cc in
    (omega arith, omega arith, rw (one, et) refl)
sound_step b c cs false true et ev ih k h =
    let second : counted 2 ≡ Some k = rw (et, ev) at h in
    let two : k ≡ 2 = cc in
    (omega arith, omega arith, rw (two, et, ev) refl)
sound_step b c cs false false et ev ih k h =
    let rest : option_map suc (comment_end (c ∷ cs)) ≡ Some k = rw (et, ev) at h in
    sound_rest b c cs et ev (comment_end (c ∷ cs)) ih k rest

pub comment_sound : (bs : List ℕ) (k : ℕ) → comment_end bs ≡ Some k → Sound bs k
comment_sound [] k h = cc
comment_sound (b ∷ []) k h = sound_last b (nat_eq 125 b) (nat_eq 42 b) refl refl k h
comment_sound (b ∷ c ∷ cs) k h = sound_step b c cs (nat_eq 125 b) (nat_eq 42 b && (nat_eq 41 c && true)) refl refl (comment_sound (c ∷ cs)) k h

-- the length of a comment as a piece
abbrev pub comment_piece : Option ℕ → Result (Piece × ℕ) Refusal
comment_piece None = Err OpenComment
comment_piece (Some n) = Ok (piece.Separator, n)

no_end : (bs : List ℕ) (k : ℕ) → k ≤ length bs → (comment_end bs ≡ Some k → ⊥) → ends_comment (take k bs) ≡ false
no_end bs k p h = false_from_ne_true _ (λ e. h (comment_unique bs k p e))

if_no : (t : Bool) → t ≡ false → (if t then Some Separator else None) ≡ None
if_no t h = rw h refl

-- no longer front of a text that begins with a brace is a comment
brace_none : (bs : List ℕ) (m : ℕ) → ((j : ℕ) → m ≤ j → comment_end bs ≡ Some j → ⊥) → NoLonger m (length (123 ∷ bs)) (123 ∷ bs)
brace_none bs m h zero p q = absurd (omega arith)
brace_none bs m h (suc j) p q = shape_brace (take j bs) (drop j bs) ∙ if_no _ (no_end bs j (omega arith) (h j (omega arith)))

star_none : (bs : List ℕ) (m : ℕ) → ((j : ℕ) → m ≤ suc j → comment_end bs ≡ Some j → ⊥) → NoLonger m (length (40 ∷ 42 ∷ bs)) (40 ∷ 42 ∷ bs)
star_none bs m h zero p q = absurd (omega arith)
star_none bs m h (suc zero) p q = shape_half bs
star_none bs m h (suc (suc j)) p q = shape_star (take j bs) (drop j bs) ∙ if_no _ (no_end bs j (omega arith) (h j (omega arith)))

brace_from : (bs : List ℕ) (o : Option ℕ) → comment_end bs ≡ o → piece_at (123 ∷ bs) ≡ comment_piece (shifted 1 o)
unfolding piece_at
brace_from bs None h =
    let none : longest (length (123 ∷ bs)) (123 ∷ bs) ≡ None = longest_none _ (123 ∷ bs) (brace_none bs 0 (λ j p e. none_same _ j h e)) in
    rw none refl
brace_from bs (Some n) h =
    let s = comment_sound bs n h in
    let shape : shape_of (123 ∷ take n bs) (drop n bs) ≡ Some Separator = shape_brace (take n bs) (drop n bs) ∙ rw s.2 refl in
    let found : longest (length (123 ∷ bs)) (123 ∷ bs) ≡ Some (suc n, Separator) =
    longest_is _ (suc n) (123 ∷ bs) Separator (omega arith) (omega arith) shape
    (brace_none bs (suc n) (λ j p e. let same = some_same _ n j h e in omega arith)) in
    rw found (ap (λ m. comment_piece (Some m)) (omega arith))

star_from : (bs : List ℕ) (o : Option ℕ) → comment_end bs ≡ o → piece_at (40 ∷ 42 ∷ bs) ≡ comment_piece (shifted 2 o)
unfolding piece_at
star_from bs None h =
    let none : longest (length (40 ∷ 42 ∷ bs)) (40 ∷ 42 ∷ bs) ≡ None = longest_none _ (40 ∷ 42 ∷ bs) (star_none bs 0 (λ j p e. none_same _ j h e)) in
    rw none refl
star_from bs (Some n) h =
    let s = comment_sound bs n h in
    let shape : shape_of (40 ∷ 42 ∷ take n bs) (drop n bs) ≡ Some Separator = shape_star (take n bs) (drop n bs) ∙ rw s.2 refl in
    let found : longest (length (40 ∷ 42 ∷ bs)) (40 ∷ 42 ∷ bs) ≡ Some (suc (suc n), Separator) =
    longest_is _ (suc (suc n)) (40 ∷ 42 ∷ bs) Separator (omega arith) (omega arith) shape
    (star_none bs (suc (suc n)) (λ j p e. let same = some_same _ n j h e in omega arith)) in
    rw found (ap (λ m. comment_piece (Some m)) (omega arith))

pub comment_at : (text : List ℕ) (opening : ℕ) → Opens text opening → piece_at text ≡ comment_piece (shifted opening (comment_end (drop opening text)))
comment_at [] opening (inl h) = absurd (false≢true h.1)
comment_at [] opening (inr h) = absurd (false≢true h.1)
comment_at (b ∷ bs) opening (inl h) =
    let brace : b ≡ 123 = sym (eqb-true 123 b (and_first _ _ h.1)) in
    rw (h.0, brace) (brace_from bs _ refl)
comment_at (b ∷ []) opening (inr h) = absurd (false≢true (and_second _ _ h.1))
comment_at (b ∷ c ∷ bs) opening (inr h) =
    let open_mark : b ≡ 40 = sym (eqb-true 40 b (and_first (nat_eq 40 b) (nat_eq 42 c && true) h.1)) in
    let star : c ≡ 42 = sym (eqb-true 42 c (and_first _ _ (and_second (nat_eq 40 b) (nat_eq 42 c && true) h.1))) in
    rw (h.0, open_mark, star) (star_from bs _ refl)

-- a byte that begins no closing mark is passed
passes : (text : List ℕ) (at : ℕ) → at < length text → begins (codes "}") (drop at text) ≡ false → begins (codes "*)") (drop at text) ≡ false
    → (n : ℕ) → shifted (suc n) (comment_end (drop (suc at) text)) ≡ shifted n (comment_end (drop at text))
passes [] at p h k n = absurd (omega arith)
passes (b ∷ bs) zero p h k n = rw (h, k) (go (comment_end bs))
  where
    go : (o : Option ℕ) → shifted (suc n) o ≡ shifted n (option_map suc o)
    go None = refl
    go (Some m) = ap (λ j. counted j) (omega arith)
passes (b ∷ bs) (suc at) p h k n = passes bs at (omega arith) h k n

pub comment_passes : (text : List ℕ) (at : ℕ) → at < length text → begins (codes "}") (drop at text) ≡ false → begins (codes "*)") (drop at text) ≡ false
    → shifted (at + 1) (comment_end (drop (at + 1) text)) ≡ shifted at (comment_end (drop at text))
comment_passes text at p h k = subst (λ m. shifted m (comment_end (drop m text)) ≡ shifted at (comment_end (drop at text))) (sym (add-one at))
    (passes text at p h k at)

-- a byte that begins a closing mark ends the comment
pub comment_closes_one : (text : List ℕ) (at : ℕ) → at < length text → begins (codes "}") (drop at text) ≡ true → comment_end (drop at text) ≡ Some 1
comment_closes_one [] at p h = absurd (omega arith)
comment_closes_one (b ∷ bs) zero p h = rw h refl
comment_closes_one (b ∷ bs) (suc at) p h = comment_closes_one bs at (omega arith) h

pub comment_closes_two : (text : List ℕ) (at : ℕ) → at < length text → begins (codes "}") (drop at text) ≡ false → begins (codes "*)") (drop at text) ≡ true
    → comment_end (drop at text) ≡ Some 2
comment_closes_two [] at p h k = absurd (omega arith)
comment_closes_two (b ∷ bs) zero p h k = rw (h, k) refl
comment_closes_two (b ∷ bs) (suc at) p h k = comment_closes_two bs at (omega arith) h k
