-- Where a string ends.
use Rattle.std.proofs.Common.{◌≡◌, ℕ, ◌<◌, ◌≤◌, ◌+◌, zero, suc, Bool, true, false, not, ◌&&◌, ◌==◌, nat_eq, List, [], ◌∷◌, length, take, drop, slice_index, Ok}
use Rattle.std.proofs.Common.{Err, Option, Some, None, codes, refl, subst, arith, sym, ◌∙◌, ap, if◌then◌else◌}
use Rattle.std.specs.Option.{option_map}
use Rattle.std.proofs.lemmas.Bool.{false≢true, false_from_ne_true, eqb-true, eq-eqb}
use Rattle.std.proofs.lemmas.List.{drop-drop, length-take}
use Rattle.std.proofs.Math.ListN.{drop_of_length-le}
use Rattle.lexer.specs.declared.piece.Piece.TheVariants as piece
use Rattle.lexer.specs.declared.piece.Refusal.TheVariants.{EmptyString, StringByte}
use Rattle.lexer.specs.declared.token.Kind.TheVariants as kind
use Rattle.lexer.specs.Shape.{Quoted, shape_of, begins, ends_string}
use Rattle.lexer.specs.Piece.{longest, piece_at, string_piece, bad_byte}
use Rattle.lexer.proofs.Ends.{counted, shifted, none_same, some_same}
use Rattle.lexer.proofs.Longest.{NoLonger, longest_none, longest_is}
use Rattle.lexer.proofs.Classes.{shape_quote, and_first, and_second}

-- how many bytes stand up to the apostrophe that closes a string
abbrev pub string_end : List ℕ → Option ℕ
string_end [] = None
string_end (b ∷ []) = if b == 39 then Some 1 else None
string_end (b ∷ c ∷ cs) =
    if b == 39 then (if c == 39 then option_map (λ n. suc (suc n)) (string_end cs) else Some 1)
    else (if b == 10 then None else option_map suc (string_end (c ∷ cs)))

-- a front is the inside of a string with its closing apostrophe
abbrev Closes : List ℕ → ℕ → Bool
Closes bs k = ends_string (take k bs) && not (begins (codes "'") (drop k bs))

pub swap : (b t : ℕ) → nat_eq b t ≡ nat_eq t b
swap b t = go (nat_eq t b) refl
  where
    go : (r : Bool) → nat_eq t b ≡ r → nat_eq b t ≡ r
    go true e = eq-eqb b t (sym (eqb-true t b e))
    go false e = false_from_ne_true _ (λ h. false≢true (sym e ∙ eq-eqb t b (sym (eqb-true b t h))))

unique_last : (t : Bool) → (t && true) ≡ true → (if t then counted 1 else None) ≡ Some 1
unique_last true h = refl
unique_last false h = absurd (false≢true h)

unique_one : (t u : Bool) (o p : Option ℕ) → (t && not (u && true)) ≡ true → (if t then (if u then o else counted 1) else p) ≡ Some 1
unique_one true true o p h = absurd (false≢true h)
unique_one true false o p h = refl
unique_one false u o p h = absurd (false≢true h)

unique_later : (t u w e f n : Bool) (o p : Option ℕ) (j : ℕ) → ((e && n) ≡ true → o ≡ Some j) → ((f && n) ≡ true → p ≡ Some (suc j))
    → ((if t then u && e else not w && f) && n) ≡ true
    → (if t then (if u then option_map (λ m. suc (suc m)) o else counted 1) else (if w then None else option_map suc p)) ≡ Some (suc (suc j))
unique_later true true w e f n o p j ih jh h = rw (ih h) refl
unique_later true false w e f n o p j ih jh h = absurd (false≢true h)
unique_later false u true e f n o p j ih jh h = absurd (false≢true h)
unique_later false u false e f n o p j ih jh h = rw (jh h) refl

string_unique : (bs : List ℕ) (k : ℕ) → k ≤ length bs → Closes bs k ≡ true → string_end bs ≡ Some k
string_unique [] zero p h = absurd (false≢true h)
string_unique [] (suc k) p h = absurd (false≢true h)
string_unique (b ∷ bs) zero p h = absurd (false≢true h)
string_unique (b ∷ []) (suc zero) p h = unique_last (b == 39) h
string_unique (b ∷ []) (suc (suc k)) p h = absurd (omega arith)
string_unique (b ∷ c ∷ cs) (suc zero) p h =
    unique_one (b == 39) (c == 39) (option_map (λ m. suc (suc m)) (string_end cs)) (if b == 10 then None else option_map suc (string_end (c ∷ cs)))
    (subst (λ u. ((b == 39) && not (u && true)) ≡ true) (sym (swap c 39)) h)
string_unique (b ∷ c ∷ cs) (suc (suc j)) p h =
    unique_later (b == 39) (c == 39) (b == 10) (ends_string (take j cs)) (ends_string (c ∷ take j cs)) (not (begins (codes "'") (drop j cs))) (string_end cs)
    (string_end (c ∷ cs)) j
    (string_unique cs j (omega arith)) (string_unique (c ∷ cs) (suc j) (omega arith)) h

abbrev Sound : List ℕ → ℕ → Type 0
Sound bs k = (0 < k) × (k ≤ length bs) × (Closes bs k ≡ true)

sound_last : (b : ℕ) (t : Bool) → (b == 39) ≡ t → (k : ℕ) → string_end (b ∷ []) ≡ Some k → Sound (b ∷ []) k
sound_last b true et k h =
    let first : counted 1 ≡ Some k = rw et at h in
    let one : k ≡ 1 = cc in
    (omega arith, omega arith, rw (one, et) refl)
sound_last b false et k h = let none : ◌≡◌ {A = Option ℕ} None (Some k) = rw et at h in cc

sound_pair : (b c : ℕ) (cs : List ℕ) → (b == 39) ≡ true → (c == 39) ≡ true → (o : Option ℕ) → ((n : ℕ) → o ≡ Some n → Sound cs n)
    → (k : ℕ) → option_map (λ m. suc (suc m)) o ≡ Some k → Sound (b ∷ c ∷ cs) k
sound_pair b c cs et eu None ih k h = cc
sound_pair b c cs et eu (Some n) ih k h =
    let s = ih n refl in
    let next : k ≡ suc (suc n) = cc in
    (omega arith, omega arith, rw (next, et, eu) s.2)

sound_rest : (b c : ℕ) (cs : List ℕ) → (b == 39) ≡ false → (b == 10) ≡ false → (o : Option ℕ) → ((n : ℕ) → o ≡ Some n → Sound (c ∷ cs) n)
    → (k : ℕ) → option_map suc o ≡ Some k → Sound (b ∷ c ∷ cs) k
sound_rest b c cs et ew None ih k h = cc
sound_rest b c cs et ew (Some zero) ih k h = let s = ih 0 refl in absurd (omega arith)
sound_rest b c cs et ew (Some (suc m)) ih k h =
    let s = ih (suc m) refl in
    let next : k ≡ suc (suc m) = cc in
    (omega arith, omega arith, rw (next, et, ew) s.2)

sound_step : (b c : ℕ) (cs : List ℕ) (t u w : Bool) → (b == 39) ≡ t → (c == 39) ≡ u → (b == 10) ≡ w → ((n : ℕ) → string_end cs ≡ Some n → Sound cs n)
    → ((n : ℕ) → string_end (c ∷ cs) ≡ Some n → Sound (c ∷ cs) n) → (k : ℕ) → string_end (b ∷ c ∷ cs) ≡ Some k → Sound (b ∷ c ∷ cs) k
sound_step b c cs true true w et eu ew ih jh k h = sound_pair b c cs et eu (string_end cs) ih k (rw (et, eu) at h)
sound_step b c cs true false w et eu ew ih jh k h =
    let first : counted 1 ≡ Some k = rw (et, eu) at h in
    let one : k ≡ 1 = cc in
    let other : nat_eq 39 c ≡ false = swap 39 c ∙ eu in
    (omega arith, omega arith, rw (one, et, other) refl)
sound_step b c cs false u true et eu ew ih jh k h = let none : ◌≡◌ {A = Option ℕ} None (Some k) = rw (et, ew) at h in cc
sound_step b c cs false u false et eu ew ih jh k h = sound_rest b c cs et ew (string_end (c ∷ cs)) jh k (rw (et, ew) at h)

string_sound : (bs : List ℕ) (k : ℕ) → string_end bs ≡ Some k → Sound bs k
string_sound [] k h = cc
string_sound (b ∷ []) k h = sound_last b (b == 39) refl k h
string_sound (b ∷ c ∷ cs) k h = sound_step b c cs (b == 39) (c == 39) (b == 10) refl refl refl (string_sound cs) (string_sound (c ∷ cs)) k h

if_no : (t : Bool) → t ≡ false → (if t then Some Quoted else None) ≡ None
if_no t h = rw h refl

quote_none : (bs : List ℕ) (m : ℕ) → ((j : ℕ) → m ≤ j → string_end bs ≡ Some j → ⊥) → NoLonger m (length (39 ∷ bs)) (39 ∷ bs)
quote_none bs m h zero p q = absurd (omega arith)
quote_none bs m h (suc j) p q =
    shape_quote (take j bs) (drop j bs) ∙ if_no _ (false_from_ne_true _ (λ e. h j (omega arith) (string_unique bs j (omega arith) e)))

string_from : (bs : List ℕ) (o : Option ℕ) → string_end bs ≡ o → piece_at (39 ∷ bs) ≡ string_piece (39 ∷ bs) (shifted 1 o)
unfolding piece_at
string_from bs None h =
    let none : longest (length (39 ∷ bs)) (39 ∷ bs) ≡ None = longest_none _ (39 ∷ bs) (quote_none bs 0 (λ j p e. none_same _ j h e)) in
    rw none refl
string_from bs (Some n) h =
    let s = string_sound bs n h in
    let shape : shape_of (39 ∷ take n bs) (drop n bs) ≡ Some Quoted = shape_quote (take n bs) (drop n bs) ∙ rw s.2 refl in
    let found : longest (length (39 ∷ bs)) (39 ∷ bs) ≡ Some (suc n, Quoted) =
    longest_is _ (suc n) (39 ∷ bs) Quoted (omega arith) (omega arith) shape
    (quote_none bs (suc n) (λ j p e. let same = some_same _ n j h e in omega arith)) in
    let next : suc n ≡ 1 + n = omega arith in
    rw found (ap (λ m. string_piece (39 ∷ bs) (Some m)) next)

pub string_at : (text : List ℕ) → slice_index text 0 ≡ 39 → piece_at text ≡ string_piece text (shifted 1 (string_end (drop 1 text)))
string_at [] h = cc
string_at (b ∷ bs) h = rw h (string_from bs _ refl)

-- the steps of a search for the closing apostrophe
true_and : (t u : Bool) → t ≡ true → (t && u) ≡ false → u ≡ false
true_and true u h k = k
true_and false u h k = absurd (false≢true h)

and_is : (t r : Bool) → (t && true) ≡ r → t ≡ r
and_is true r h = h
and_is false r h = h

pair_is : (ys : List ℕ) → begins (codes "''") ys ≡ true → string_end ys ≡ option_map (λ n. suc (suc n)) (string_end (drop 2 ys))
pair_is [] h = absurd (false≢true h)
pair_is (b ∷ []) h = absurd (false≢true (and_second _ _ h))
pair_is (b ∷ c ∷ cs) h =
    let first : (b == 39) ≡ true = swap b 39 ∙ and_first (nat_eq 39 b) (nat_eq 39 c && true) h in
    let next : (c == 39) ≡ true = swap c 39 ∙ and_is _ true (and_second (nat_eq 39 b) (nat_eq 39 c && true) h) in
    rw (first, next) refl

close_is : (ys : List ℕ) → begins (codes "''") ys ≡ false → begins (codes "'") ys ≡ true → string_end ys ≡ Some 1
close_is [] h k = absurd (false≢true k)
close_is (b ∷ []) h k = let first : (b == 39) ≡ true = swap b 39 ∙ and_is _ true k in rw first refl
close_is (b ∷ c ∷ cs) h k =
    let here : nat_eq 39 b ≡ true = and_is _ true k in
    let first : (b == 39) ≡ true = swap b 39 ∙ here in
    let next : (c == 39) ≡ false = swap c 39 ∙ and_is _ false (true_and (nat_eq 39 b) (nat_eq 39 c && true) here h) in
    rw (first, next) refl

line_is : (ys : List ℕ) → begins (codes "'") ys ≡ false → begins (10 ∷ []) ys ≡ true → string_end ys ≡ None
line_is [] h k = refl
line_is (b ∷ []) h k = let first : (b == 39) ≡ false = swap b 39 ∙ and_is _ false h in rw first refl
line_is (b ∷ c ∷ cs) h k =
    let first : (b == 39) ≡ false = swap b 39 ∙ and_is _ false h in
    let line : (b == 10) ≡ true = swap b 10 ∙ and_is _ true k in
    rw (first, line) refl

pass_is : (ys : List ℕ) → begins (codes "'") ys ≡ false → begins (10 ∷ []) ys ≡ false → string_end ys ≡ option_map suc (string_end (drop 1 ys))
pass_is [] h k = refl
pass_is (b ∷ []) h k = let first : (b == 39) ≡ false = swap b 39 ∙ and_is _ false h in rw first refl
pass_is (b ∷ c ∷ cs) h k =
    let first : (b == 39) ≡ false = swap b 39 ∙ and_is _ false h in
    let line : (b == 10) ≡ false = swap b 10 ∙ and_is _ false k in
    rw (first, line) refl

shift_two : (at : ℕ) (o : Option ℕ) → shifted (at + 2) o ≡ shifted at (option_map (λ n. suc (suc n)) o)
shift_two at None = refl
shift_two at (Some n) = let same : at + 2 + n ≡ at + suc (suc n) = omega arith in ap (λ m. counted m) same

shift_one : (at : ℕ) (o : Option ℕ) → shifted (at + 1) o ≡ shifted at (option_map suc o)
shift_one at None = refl
shift_one at (Some n) = let same : at + 1 + n ≡ at + suc n = omega arith in ap (λ m. counted m) same

more : (text : List ℕ) (at n : ℕ) → drop (at + n) text ≡ drop n (drop at text)
more text at n = sym (drop-drop n at text)

pub string_pairs : (text : List ℕ) (at : ℕ) → begins (codes "''") (drop at text) ≡ true
    → shifted (at + 2) (string_end (drop (at + 2) text)) ≡ shifted at (string_end (drop at text))
string_pairs text at h = shift_two at (string_end (drop (at + 2) text)) ∙ ap (λ ys. shifted at (option_map (λ n. suc (suc n)) (string_end ys)))
    (more text at 2) ∙ ap (shifted at) (sym (pair_is (drop at text) h))

pub string_passes : (text : List ℕ) (at : ℕ) → begins (codes "'") (drop at text) ≡ false → begins (10 ∷ []) (drop at text) ≡ false
    → shifted (at + 1) (string_end (drop (at + 1) text)) ≡ shifted at (string_end (drop at text))
string_passes text at h k = shift_one at (string_end (drop (at + 1) text)) ∙ ap (λ ys. shifted at (option_map suc (string_end ys))) (more text at 1) ∙ ap
    (shifted at) (sym (pass_is (drop at text) h k))

pub string_closes : (text : List ℕ) (at : ℕ) → begins (codes "''") (drop at text) ≡ false → begins (codes "'") (drop at text) ≡ true
    → Some (at + 1) ≡ shifted at (string_end (drop at text))
string_closes text at h k = ap (shifted at) (sym (close_is (drop at text) h k))

pub string_breaks : (text : List ℕ) (at : ℕ) → begins (codes "'") (drop at text) ≡ false → begins (10 ∷ []) (drop at text) ≡ true
    → None ≡ shifted at (string_end (drop at text))
string_breaks text at h k = ap (shifted at) (sym (line_is (drop at text) h k))

pub string_stops : (text : List ℕ) (at : ℕ) → length text ≤ at → None ≡ shifted at (string_end (drop at text))
string_stops text at h = ap (λ ys. shifted at (string_end ys)) (sym (drop_of_length-le text h))

-- what the bytes of a string are
long : (n : ℕ) (text : List ℕ) → n ≤ length text → length (take n text) ≡ n
long n text h = omega (arith, length-take n text)

pub string_empty : (text : List ℕ) (n : ℕ) → n ≤ length text → n ≡ 2 → string_piece text (Some n) ≡ Err EmptyString
string_empty text n h e = let two : (length (take n text) == 2) ≡ true = eq-eqb _ _ (long n text h ∙ e) in rw two refl

not_two : (text : List ℕ) (n : ℕ) → n ≤ length text → (n ≡ 2 → ⊥) → (length (take n text) == 2) ≡ false
not_two text n h ne = false_from_ne_true _ (λ e. ne (sym (long n text h) ∙ eqb-true _ _ e))

pub string_bad : (text : List ℕ) (n offset : ℕ) → n ≤ length text → (n ≡ 2 → ⊥) → bad_byte (take n text) ≡ Some offset
    → string_piece text (Some n) ≡ Err (StringByte offset)
string_bad text n offset h ne e = rw (not_two text n h ne, e) refl

pub string_good : (text : List ℕ) (n : ℕ) → n ≤ length text → (n ≡ 2 → ⊥) → bad_byte (take n text) ≡ None
    → string_piece text (Some n) ≡ Ok (piece.Token kind.Text, n)
string_good text n h ne e = rw (not_two text n h ne, e) refl
