-- What a list of code gets, piece behind piece, and what is set in it later.
use Rattle.std.proofs.Common.{◌≡◌, ℕ, ◌+◌, ◌<◌, ◌≤◌, Bool, true, false, ◌||◌, List, [], ◌∷◌, ◌++◌, drop, get_or, length, length-append, Ok, Err, refl, ap, sym}
use Rattle.std.proofs.Common.{subst, ◌∙◌}
use Rattle.std.proofs.Common.{append_assoc, append-nil, arith, nat_lt}
use Rattle.std.specs.Prelude.{slice_set}
use Rattle.std.specs.List.{flat_map}
use Rattle.std.proofs.lemmas.List.{drop_all, drop_more}
use Rattle.std.proofs.Math.Seq.{set-append_seam}
use Rattle.std.proofs.lemmas.Bool.{lt-ltb, ltb-true}
use Rattle.pcode_assembler.specs.declared.instr.Instr.{Instr}
use Rattle.code_emitter.specs.declared.emitter.Loss.TheVariants.{Memory, TooLarge}
use Rattle.code_emitter.specs.Emitted.{Gets, Grows, HasCode, HasMore, IsKept, Seen, place_of, with_instr}

or_true : (b : Bool) → (b || true) ≡ true
or_true true = refl
or_true false = refl

-- code that is too large stays so with more behind it
larger : (b : Bool) (a c : ℕ) (l m : Bool) → nat_lt 1000000 a ≡ b → a ≤ c → (b || l) ≡ true → (nat_lt 1000000 c || (l || m)) ≡ true
larger true a c l m is within large = ap (λ b. b || (l || m)) (lt-ltb 1000000 c (omega (arith, ltb-true 1000000 a is)))
larger false a c true m is within large = or_true (nat_lt 1000000 c)
larger false a c false m is within large = absurd (cc)

-- nothing more
pub gets_none : (seen : Seen) → Gets seen seen []
gets_none (Ok code) = record { more = (sym (append-nil code), refl) }
gets_none (Err loss) = record { more = refl }

-- one piece behind another
both : (l m : Bool) (code : List Instr) (b c : Seen) (p q : List Instr) → HasCode l b (code ++ p) → HasMore m b c q → HasCode (l || m) c (code ++ (p ++ q))
both l m code (Ok more) (Ok all) p q h k = (
  k.0 ∙ ap (λ d. d ++ q) h.0 ∙ append_assoc code p q,
  ap (λ n. n || m) h.1 ∙ k.1,
)
both l m code (Ok more) (Err (Memory _)) p q h k = tt
both l m code (Ok more) (Err TooLarge) p q h k =
    ap (λ n. nat_lt 1000000 (length (code ++ (p ++ q))) || (n || m)) h.1
    ∙ ap (λ d. nat_lt 1000000 (length d) || m) (sym (append_assoc code p q) ∙ ap (λ d. d ++ q) (sym h.0))
    ∙ k
both l m code (Err (Memory _)) c p q h k = subst (λ d. HasCode (l || m) d (code ++ (p ++ q))) (sym k) tt
both l m code (Err TooLarge) c p q h k =
    subst (λ d. HasCode (l || m) d (code ++ (p ++ q))) (sym k)
    (larger _ (length (code ++ p)) (length (code ++ (p ++ q))) l m refl
    (omega (arith, length-append code p, length-append code (p ++ q), length-append p q)) h)

then_more : (l m : Bool) (a b c : Seen) (p q : List Instr) → HasMore l a b p → HasMore m b c q → HasMore (l || m) a c (p ++ q)
then_more l m (Ok code) b c p q h k = both l m code b c p q h k
then_more l m (Err loss) b c p q h k = subst (λ d. HasMore m d c q) h k

pub grows_then : {l m : Bool} {a b c : Seen} {p q : List Instr} → Grows l a b p → Grows m b c q → Grows (l || m) a c (p ++ q)
grows_then {l = l} {m = m} {a = a} {b = b} {c = c} {p = p} {q = q} g h = record { more = then_more l m a b c p q g.more h.more }

pub gets_then : {a b c : Seen} {p q : List Instr} → Gets a b p → Gets b c q → Gets a c (p ++ q)
gets_then g h = grows_then g h

-- what is kept was kept before, and its next place is behind the piece
pub kept_before : {l : Bool} {a b : Seen} {p : List Instr} → Grows l a b p → IsKept b → IsKept a
kept_before {l = l} {a = Ok code} {b = b} {p = p} g kept = tt
kept_before {l = l} {a = Err loss} {b = b} {p = p} g kept = subst IsKept g.more kept

placed_behind : (l : Bool) (a b : Seen) (p : List Instr) → HasMore l a b p → IsKept b → place_of b ≡ place_of a + length p
placed_behind l (Ok code) (Ok more) p h kept = ap length h.0 ∙ length-append code p
placed_behind l (Ok code) (Err loss) p h kept = absurd kept
placed_behind l (Err loss) b p h kept = absurd (subst IsKept h kept)

pub place_behind : {l : Bool} {a b : Seen} {p : List Instr} → Grows l a b p → IsKept b → place_of b ≡ place_of a + length p
place_behind {l = l} {a = a} {b = b} {p = p} g kept = placed_behind l a b p g.more kept

-- the same piece in other words; as far as it rests on where it ends, only where that is known
alike : (l : Bool) (a b : Seen) (p q : List Instr) → HasMore l a b p → (IsKept a → length p ≡ length q) → (IsKept b → p ≡ q) → HasMore l a b q
alike l (Ok code) (Ok more) p q h long same = (h.0 ∙ ap (λ d. code ++ d) (same tt), h.1)
alike l (Ok code) (Err (Memory _)) p q h long same = tt
alike l (Ok code) (Err TooLarge) p q h long same =
    ap (λ n. nat_lt 1000000 n || l) (length-append code q ∙ ap (λ n. length code + n) (sym (long tt)) ∙ sym (length-append code p)) ∙ h
alike l (Err loss) b p q h long same = h

pub gets_alike : {l : Bool} {a b : Seen} {p q : List Instr} → Grows l a b p → (IsKept a → length p ≡ length q) → (IsKept b → p ≡ q) → Grows l a b q
gets_alike {l = l} {a = a} {b = b} {p = p} {q = q} g long same = record { more = alike l a b p q g.more long same }

pub gets_same : {l : Bool} {a b : Seen} {p q : List Instr} → Grows l a b p → (IsKept a → p ≡ q) → Grows l a b q
gets_same g same = gets_alike g (λ kept. ap length (same kept)) (λ kept. same (kept_before g kept))

pub gets_is : {a b : Seen} {p q : List Instr} → Gets a b p → p ≡ q → Gets a b q
gets_is {a = a} {b = b} g is = subst (Gets a b) is g

-- a piece that is made for its place, behind another
pub gets_placed : {l m : Bool} {a b c : Seen} {p : List Instr} (piece : ℕ → List Instr) → Grows l a b p → Grows m b c (piece (place_of b))
    → Grows (l || m) a c (p ++ piece (place_of a + length p))
gets_placed piece g h = grows_then g (gets_same h (λ kept. ap piece (place_behind g kept)))

-- an instruction that is set when what is behind it is there
filled : (a b c : Seen) (hole i i' : Instr) (q : List Instr) → HasMore false a b (hole ∷ []) → HasMore false b c q → (IsKept c → i ≡ i')
    → HasMore false a (with_instr (place_of a) i c) (i' ∷ q)
filled (Ok code) (Ok more) (Ok all) hole i i' q h k same = (
  ap (λ d. slice_set d (length code) i) (k.0 ∙ ap (λ d. d ++ q) h.0 ∙ append_assoc code (hole ∷ []) q)
      ∙ set-append_seam code hole q i
      ∙ ap (λ j. code ++ (j ∷ q)) (same tt),
  refl,
)
filled (Ok code) (Ok more) (Err (Memory _)) hole i i' q h k same = tt
filled (Ok code) (Ok more) (Err TooLarge) hole i i' q h k same =
    ap (λ n. nat_lt 1000000 n || false)
    (length-append code (i' ∷ q) ∙ sym (length-append code (hole ∷ q)) ∙ ap length (sym (append_assoc code (hole ∷ []) q) ∙ ap (λ d. d ++ q) (sym h.0))) ∙ k
filled (Ok code) (Err (Memory _)) c hole i i' q h k same =
    subst (λ d. HasCode false (with_instr (length code) i d) (code ++ (i' ∷ q))) (sym k) tt
filled (Ok code) (Err TooLarge) c hole i i' q h k same =
    subst (λ d. HasCode false (with_instr (length code) i d) (code ++ (i' ∷ q))) (sym k)
    (larger _ (length (code ++ (hole ∷ []))) (length (code ++ (i' ∷ q))) false false refl
    (omega (arith, length-append code (hole ∷ []), length-append code (i' ∷ q))) h)
filled (Err loss) b c hole i i' q h k same = ap (with_instr 0 i) (subst (λ d. HasMore false d c q) h k)

pub gets_filled : {a b c d : Seen} {hole i i' : Instr} {q : List Instr} → Gets a b (hole ∷ []) → Gets b c q → d ≡ with_instr (place_of a) i c
    → (IsKept c → i ≡ i') → Gets a d (i' ∷ q)
gets_filled {a = a} {b = b} {c = c} {d = d} {hole = hole} {i = i} {i' = i'} {q = q} g h is same =
    subst (λ s. Gets a s (i' ∷ q)) (sym is) (record { more = filled a b c hole i i' q g.more h.more same })

-- what is still to come until it has a whole piece
pub record Left (before now : Seen) (rest whole : List Instr) : Type 0 where
  pub ends : (end : Seen) → Gets now end rest → Gets before end whole

pub left_first : (seen : Seen) (piece : List Instr) → Left seen seen piece piece
left_first seen piece = record { ends = λ end g. g }

pub left_is : {a b : Seen} {p q whole : List Instr} → Left a b p whole → p ≡ q → Left a b q whole
left_is {a = a} {b = b} {whole = whole} left is = subst (λ p. Left a b p whole) is left

pub left_more : {a b c : Seen} {p rest whole : List Instr} → Left a b (p ++ rest) whole → Gets b c p → Left a c rest whole
left_more left g = record { ends = λ end h. left.ends end (gets_then g h) }

pub left_placed : {a b c : Seen} {p whole : List Instr} (rest : ℕ → List Instr) → Left a b (p ++ rest (place_of b + length p)) whole → Gets b c p
    → Left a c (rest (place_of c)) whole
left_placed rest left g = record { ends = λ end h. left.ends end (gets_placed rest g h) }

pub left_none : {a b : Seen} {rest whole : List Instr} → Left a b rest whole → rest ≡ [] → Gets a b whole
left_none {b = b} left none = left.ends b (gets_is (gets_none b) (sym none))

-- over a list, a piece for each element
pub next_of : {X : Type 0} (xs : List X) (i : ℕ) (x : X) → i < length xs → x ≡ get_or xs i x → drop i xs ≡ x ∷ drop (i + 1) xs
next_of xs i x inside is = drop_more xs i x inside ∙ ap (λ y. y ∷ drop (i + 1) xs) (sym is)

pub left_each : {X : Type 0} {a b c : Seen} {whole : List Instr} (piece : X → List Instr) (xs : List X) (i : ℕ) (x : X)
    → Left a b (flat_map piece (drop i xs)) whole → i < length xs → x ≡ get_or xs i x → Gets b c (piece x)
    → Left a c (flat_map piece (drop (i + 1) xs)) whole
left_each piece xs i x left inside is g = left_more (left_is left (ap (flat_map piece) (next_of xs i x inside is))) g

pub left_all : {X : Type 0} {a b : Seen} {whole : List Instr} (piece : X → List Instr) (xs : List X) (i : ℕ)
    → Left a b (flat_map piece (drop i xs)) whole → length xs ≤ i → Gets a b whole
left_all piece xs i left end = left_none left (ap (flat_map piece) (drop_all i xs end))
