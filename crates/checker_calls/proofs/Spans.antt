-- Rows with consecutive numbers: which are among them, tests of each, and what bears those that a path names.
use Rattle.std.proofs.Common.{arith, ◌≡◌, ⊎_elim, ◌∙◌, sym, ap, ap₂, refl, subst, ℕ, zero, suc, ◌+◌, ◌-◌, ◌<◌, ◌≤◌, Bool, true, false, cond, nat_eq, ◌&&◌}
use Rattle.std.proofs.Common.{◌||◌, List, [], ◌∷◌, drop, length, map, min, take}
use Rattle.std.specs.List.{list_all, range_with_len}
use Rattle.std.proofs.lemmas.Bool.{cases_lt, eq-eqb, eqb-true}
use Rattle.std.proofs.lemmas.List.{take-map}
use Rattle.std.proofs.lemmas.List.Folds.{list_all-append, list_all_at}
use Rattle.std.proofs.lemmas.List.FromFn.{get_or-range_with_len, length-range_with_len}
use denote.Ref.{Bor}
use Rattle.domain.specs.Interval.{Interval}
use Rattle.checker_rows.specs.declared.span.Span.{Span}
use Rattle.checker_rows.specs.View.{numbers}
use Rattle.checker_state.specs.declared.reach.Reach.{Reach}
use Rattle.checker_state.specs.Loops.{is_among}
use Rattle.checker_state.specs.View.{said_reach}
use Rattle.checker_loops.proofs.Stepped.{rows-more, rows-whole, rows_to}
use Rattle.checker_calls.specs.declared.actuals.Bearers.{Bearers}
use Rattle.checker_calls.specs.declared.actuals.Bearers.TheVariants as kept
use Rattle.checker_calls.specs.Actuals.{Bearer, Passed, Reached, bearers_at}
use Rattle.checker_calls.specs.View.{said_bearers}

-- ---- rows of a span

among-cases : (first row : ℕ) (rest : Bool) (same : Bool) → nat_eq first row ≡ same → (same ≡ false → rest ≡ true) → (nat_eq first row || rest) ≡ true
among-cases first row rest true same behind = ap (λ b. b || rest) same
among-cases first row rest false same behind = ap (λ b. b || rest) same ∙ behind refl

both-values : (b : Bool) → b ≡ true → b ≡ false → ⊥
both-values b one other = cc

past : (first row : ℕ) → first ≤ row → nat_eq first row ≡ false → first + 1 ≤ row
past first row least other =
    let apart : first ≡ row → ⊥ = λ is. (let e : nat_eq first row ≡ true = eq-eqb first row is in absurd (both-values (nat_eq first row) e other)) in
    omega (arith, least, apart)

pub among-in : (count first row : ℕ) → first ≤ row → row < first + count → is_among row (range_with_len first count) ≡ true
among-in zero first row least most = absurd (omega (arith, least, most))
among-in (suc count) first row least most =
    among-cases first row (is_among row (range_with_len (first + 1) count)) (nat_eq first row) refl
    (λ other. among-in count (first + 1) row (past first row least other) (omega (arith, most)))

among-neither : (first row : ℕ) (rest : Bool) (same : Bool) → nat_eq first row ≡ same → (first ≡ row → ⊥) → rest ≡ false
    → (nat_eq first row || rest) ≡ false
among-neither first row rest true same apart behind = absurd (apart (eqb-true first row same))
among-neither first row rest false same apart behind = ap (λ b. b || rest) same ∙ behind

pub among-below : (count first row : ℕ) → row < first → is_among row (range_with_len first count) ≡ false
among-below zero first row below = refl
among-below (suc count) first row below =
    among-neither first row (is_among row (range_with_len (first + 1) count)) (nat_eq first row) refl (λ is. omega (arith, is, below))
    (among-below count (first + 1) row (omega (arith, below)))

pub among-past : (count first row : ℕ) → first + count ≤ row → is_among row (range_with_len first count) ≡ false
among-past zero first row behind = refl
among-past (suc count) first row behind =
    among-neither first row (is_among row (range_with_len (first + 1) count)) (nat_eq first row) refl (λ is. omega (arith, is, behind))
    (among-past count (first + 1) row (omega (arith, behind)))

-- ---- a test of each

-- one more passes
pub all-row : (test : ℕ → Bool) (first row : ℕ) → first ≤ row → list_all test (rows_to first row) ≡ true → test row ≡ true
    → list_all test (rows_to first (row + 1)) ≡ true
all-row test first row from before here =
    ap (list_all test) (rows-more first row from) ∙ list_all-append test (rows_to first row) (row ∷ []) ∙ ap (λ b. b && (test row && true)) before
    ∙ ap (λ b. b && true) here

-- one doesn't
pub not-all : (test : ℕ → Bool) (first count row last : ℕ) → last ≡ first + count → first ≤ row → row < last → test row ≡ false
    → false ≡ list_all test (range_with_len first count)
not-all test first count row last is from before here =
    let i = row - first in
    let inside : i < count = omega (arith, is, from, before) in
    let at : first + i ≡ row = omega (arith, from) in
    sym
    (list_all_at test (range_with_len first count) i 0 (subst (λ n. i < n) (sym (length-range_with_len first count)) inside)
    (ap test (get_or-range_with_len first count i 0 inside ∙ at) ∙ here))

-- each did
pub all-rows : (test : ℕ → Bool) (first count row last : ℕ) → last ≡ first + count → (first ≤ last → row ≤ last) → last ≤ row
    → list_all test (rows_to first row) ≡ true → true ≡ list_all test (range_with_len first count)
all-rows test first count row last is before past so =
    sym so ∙ ap (list_all test) (rows-whole first count row last is before past)

-- ---- those from a place on and before another

abbrev none : (A : Type 0) → List A
none A = []

none-taken : {A : Type 0} (xs : List A) → take 0 xs ≡ []
none-taken [] = refl
none-taken (x ∷ xs) = refl

none-dropped : {A : Type 0} (k : ℕ) → drop k (none A) ≡ []
none-dropped zero = refl
none-dropped (suc k) = refl

empty-cut : {A : Type 0} (xs : List A) (from to first : ℕ) → to ≤ from → take (to - from) (drop from xs) ≡ drop first []
empty-cut xs from to first none =
    let e : to - from ≡ 0 = omega (arith, none) in
    ap (λ (n : ℕ). take n (drop from xs)) e ∙ none-taken (drop from xs) ∙ sym (none-dropped first)

sliced : {A : Type 0} (xs : List A) (first end from to : ℕ) → to ≡ min end (length xs) → from ≡ min first to
    → take (to - from) (drop from xs) ≡ drop first (take end xs)
sliced [] first zero from to to_is from_is = empty-cut [] from to first (omega (arith, to_is))
sliced [] first (suc end) from to to_is from_is = empty-cut [] from to first (omega (arith, to_is))
sliced (x ∷ xs) first zero from to to_is from_is = empty-cut (x ∷ xs) from to first (omega (arith, to_is))
sliced (x ∷ xs) zero (suc end) from to to_is from_is =
    let none : from ≡ 0 = omega (arith, from_is) in
    let some : to - from ≡ suc (min end (length xs)) = omega (arith, none, to_is) in
    let e : min end (length xs) - 0 ≡ min end (length xs) = omega arith in
    ap₂ (λ (n k : ℕ). take n (drop k (x ∷ xs))) some none
    ∙ ap (λ rest. x ∷ rest)
    (ap (λ n. take n xs) (sym e) ∙ sliced xs zero end 0 (min end (length xs)) refl (omega arith))
sliced (x ∷ xs) (suc first) (suc end) from to to_is from_is =
    let last = min end (length xs) in
    let least = min first last in
    let whole : to ≡ suc last = omega (arith, to_is) in
    let part : from ≡ suc least = omega (arith, from_is, whole) in
    let count : to - from ≡ last - least = omega (arith, whole, part) in
    ap₂ (λ (n k : ℕ). take n (drop k (x ∷ xs))) count part ∙ sliced xs first end least last refl refl

pub range-cut : (start count first end from to : ℕ) → to ≡ min end count → from ≡ min first to
    → range_with_len (start + from) (to - from) ≡ drop first (take end (range_with_len start count))
range-cut start zero first zero from to to_is from_is =
    let e : to - from ≡ 0 = omega (arith, to_is) in ap (range_with_len (start + from)) e ∙ sym (none-dropped first)
range-cut start zero first (suc end) from to to_is from_is =
    let e : to - from ≡ 0 = omega (arith, to_is) in ap (range_with_len (start + from)) e ∙ sym (none-dropped first)
range-cut start (suc count) first zero from to to_is from_is =
    let e : to - from ≡ 0 = omega (arith, to_is) in ap (range_with_len (start + from)) e ∙ sym (none-dropped first)
range-cut start (suc count) zero (suc end) from to to_is from_is =
    let last = min end count in
    let none : from ≡ 0 = omega (arith, from_is) in
    let some : to - from ≡ suc last = omega (arith, none, to_is) in
    let here : start + 0 ≡ start = omega arith in
    let next : start + 1 + 0 ≡ start + 1 = omega arith in
    let e : last - 0 ≡ last = omega arith in
    ap₂ (λ (k n : ℕ). range_with_len (start + k) n) none some ∙ ap (λ (k : ℕ). range_with_len k (suc last)) here
    ∙ ap (λ rest. start ∷ rest)
    (ap₂ range_with_len (sym next) (sym e) ∙ range-cut (start + 1) count zero end 0 last refl (omega arith))
range-cut start (suc count) (suc first) (suc end) from to to_is from_is =
    let last = min end count in
    let least = min first last in
    let whole : to ≡ suc last = omega (arith, to_is) in
    let part : from ≡ suc least = omega (arith, from_is, whole) in
    let many : to - from ≡ last - least = omega (arith, whole, part) in
    let at : start + from ≡ start + 1 + least = omega (arith, part) in
    ap₂ range_with_len at many ∙ range-cut (start + 1) count first end least last refl refl

-- ---- the bearers of rows

none-cut : (k n : ℕ) → drop k (take n (none Bearer)) ≡ []
none-cut k zero = none-dropped k
none-cut k (suc n) = none-dropped k

-- one more, by those behind it
cut-more : (wanted many first count : ℕ) (bearer : Bearer) (bearers rest : List Bearer)
    → rest ≡ drop (wanted - (first + 1)) (take (min (wanted + many - (first + 1)) count) bearers)
    → cond (is_among first (range_with_len wanted many)) (bearer ∷ rest) rest
    ≡ drop (wanted - first) (take (min (wanted + many - first) (suc count)) (bearer ∷ bearers))
cut-more wanted many first count bearer bearers rest behind =
    ⊎_elim
    (λ below.
    let start : wanted - first ≡ suc (wanted - (first + 1)) = omega (arith, below) in
    let end : min (wanted + many - first) (suc count) ≡ suc (min (wanted + many - (first + 1)) count) = omega (arith, below) in
    ap (λ (b : Bool). cond b (bearer ∷ rest) rest) (among-below many wanted first below) ∙ behind
    ∙ sym (ap₂ (λ (k n : ℕ). drop k (take n (bearer ∷ bearers))) start end))
    (λ from.
    ⊎_elim
    (λ inside.
    let none : wanted - (first + 1) ≡ 0 = omega (arith, from) in
    let start : wanted - first ≡ 0 = omega (arith, from) in
    let end : min (wanted + many - first) (suc count) ≡ suc (min (wanted + many - (first + 1)) count) = omega (arith, inside) in
    ap (λ (b : Bool). cond b (bearer ∷ rest) rest) (among-in many wanted first from inside)
    ∙ ap (λ more. bearer ∷ more) (behind ∙ ap (λ (k : ℕ). drop k (take (min (wanted + many - (first + 1)) count) bearers)) none)
    ∙ sym (ap₂ (λ (k n : ℕ). drop k (take n (bearer ∷ bearers))) start end))
    (λ past.
    let none : min (wanted + many - (first + 1)) count ≡ 0 = omega (arith, past) in
    let end : min (wanted + many - first) (suc count) ≡ 0 = omega (arith, past) in
    ap (λ (b : Bool). cond b (bearer ∷ rest) rest) (among-past many wanted first past) ∙ behind
    ∙ ap (λ (n : ℕ). drop (wanted - (first + 1)) (take n bearers)) none ∙ none-dropped (wanted - (first + 1))
    ∙ sym (none-dropped (wanted - first))
    ∙ sym (ap (λ (n : ℕ). drop (wanted - first) (take n (bearer ∷ bearers))) end))
    (cases_lt first (wanted + many)))
    (cases_lt first wanted)

-- those of some rows among others are those from a place on and before another
pub bearers-cut : (wanted many first count : ℕ) (bearers : List Bearer)
    → bearers_at (range_with_len wanted many) (range_with_len first count) bearers
    ≡ drop (wanted - first) (take (min (wanted + many - first) count) bearers)
bearers-cut wanted many first zero bearers =
    let e : min (wanted + many - first) 0 ≡ 0 = omega arith in
    sym (ap (λ (n : ℕ). drop (wanted - first) (take n bearers)) e ∙ none-dropped (wanted - first))
bearers-cut wanted many first (suc count) [] = sym (none-cut (wanted - first) (min (wanted + many - first) (suc count)))
bearers-cut wanted many first (suc count) (bearer ∷ bearers) =
    cut-more wanted many first count bearer bearers (bearers_at (range_with_len wanted many) (range_with_len (first + 1) count) bearers)
    (bearers-cut wanted many (first + 1) count bearers)

-- ---- bearers that are kept

map-dropped : {A B : Type 0} (f : A → B) (k : ℕ) (xs : List A) → map f (drop k xs) ≡ drop k (map f xs)
map-dropped f zero xs = refl
map-dropped f (suc k) [] = refl
map-dropped f (suc k) (x ∷ xs) = map-dropped f k xs

map-cut : {A B : Type 0} (f : A → B) (first end : ℕ) (xs : List A) → map f (drop first (take end xs)) ≡ drop first (take end (map f xs))
map-cut f first end xs = map-dropped f first (take end xs) ∙ ap (drop first) (sym (take-map f end xs))

pub passed-cut : (bearers : Bearers) (ranges : Bor (List Interval)) (first end from to : ℕ) → bearers ≡ kept.Passed ranges
    → to ≡ min end (length ranges.now) → from ≡ min first to
    → map Passed (take (to - from) (drop from ranges.now)) ≡ drop first (take end (said_bearers bearers))
passed-cut bearers ranges first end from to is to_is from_is =
    ap (map Passed) (sliced ranges.now first end from to to_is from_is) ∙ map-cut Passed first end ranges.now
    ∙ ap (λ (b : Bearers). drop first (take end (said_bearers b))) (sym is)

pub reached-cut : (bearers : Bearers) (rows part : Span) (reach : Reach) (first end : ℕ) → bearers ≡ kept.Reached rows reach
    → numbers part ≡ drop first (take end (numbers rows))
    → map (λ row. Reached row (said_reach reach)) (numbers part) ≡ drop first (take end (said_bearers bearers))
reached-cut bearers rows part reach first end is part_is =
    ap (map (λ row. Reached row (said_reach reach))) part_is ∙ map-cut (λ row. Reached row (said_reach reach)) first end (numbers rows)
    ∙ ap (λ (b : Bearers). drop first (take end (said_bearers b))) (sym is)
