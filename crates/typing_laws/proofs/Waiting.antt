-- Which routines wait for their blocks, and how often numbers stand in lists.
use Rattle.std.proofs.Common.{◌≡◌, ℕ, zero, suc, ◌+◌, ◌<◌, Bool, true, false, ◌&&◌, if◌then◌else◌, nat_eq, nat_lt, nat_le, List, [], ◌∷◌, ◌++◌, Option, Some}
use Rattle.std.proofs.Common.{None, refl, sym, ap, subst, ◌∙◌, arith}
use Rattle.std.specs.Prelude.{IsPermutation}
use Rattle.std.specs.Map.{lookup}
use Rattle.std.specs.Option.{option_or}
use Rattle.std.specs.List.{range_with_len}
use Rattle.std.proofs.lemmas.Bool.{eq-eqb, eqb-true}
use Rattle.std.proofs.lemmas.Bool.Decides.{nat_tests}
use Rattle.std.proofs.lemmas.List.Sorted.{IsPermutation-refl, IsPermutation-sym, IsPermutation-cons, IsPermutation-middle, IsPermutation-trans}
use Rattle.indexmap.specs.IndexMap.{insert_entry}
use Rattle.place.specs.declared.Place.{Place}
use Rattle.typing.specs.Routines.{is_waiting, first_waiting}
use Rattle.typing_laws.proofs.Owned.{Fails}

-- ---- waiting

-- a block's routine waits for it
abbrev pub waits_in : List (ℕ × Option Place) → ℕ → Bool
waits_in waiting block = is_waiting (lookup (nat_eq block) waiting)

abbrev pub is_place : Option Place → Bool
is_place None = false
is_place (Some place) = true

waiting_is : (place : Option Place) → is_waiting (Some place) ≡ is_place place
waiting_is None = refl
waiting_is (Some place) = refl

-- what is told of a block holds of it
pub told_of_it : (waiting : List (ℕ × Option Place)) (block : ℕ) (place : Option Place)
    → waits_in (insert_entry nat_eq waiting block place) block ≡ is_place place
told_of_it [] block place =
    ap (λ (b : Bool). is_waiting (if b then Some place else None)) (eq-eqb block block refl) ∙ waiting_is place
told_of_it (one ∷ waiting) block place = by (nat_eq block one.0) refl (told_of_it waiting block place)
  where
    by : (test : Bool) → nat_eq block one.0 ≡ test → waits_in (insert_entry nat_eq waiting block place) block ≡ is_place place
        → waits_in (if test then (one.0, place) ∷ waiting else one ∷ insert_entry nat_eq waiting block place) block ≡ is_place place
    by true same more = ap (λ (b : Bool). is_waiting (if b then Some place else lookup (nat_eq block) waiting)) same ∙ waiting_is place
    by false same more =
        ap (λ (b : Bool). is_waiting (if b then Some one.1 else lookup (nat_eq block) (insert_entry nat_eq waiting block place))) same ∙ more

-- and of no other
pub told_of_others : (waiting : List (ℕ × Option Place)) (block other : ℕ) (place : Option Place) → Fails (nat_eq other block)
    → waits_in (insert_entry nat_eq waiting block place) other ≡ waits_in waiting other
told_of_others [] block other place differ = ap (λ (b : Bool). is_waiting (if b then Some place else None)) differ
told_of_others (one ∷ waiting) block other place differ = by (nat_eq block one.0) refl (told_of_others waiting block other place differ)
  where
    by : (test : Bool) → nat_eq block one.0 ≡ test → waits_in (insert_entry nat_eq waiting block place) other ≡ waits_in waiting other
        → waits_in (if test then (one.0, place) ∷ waiting else one ∷ insert_entry nat_eq waiting block place) other ≡ waits_in (one ∷ waiting) other
    by true same more =
        let at : block ≡ one.0 = eqb-true block one.0 same in
        let no : nat_eq other one.0 ≡ false = ap (nat_eq other) (sym at) ∙ differ in
        ap (λ (b : Bool). is_waiting (if b then Some place else lookup (nat_eq other) waiting)) no
        ∙ sym (ap (λ (b : Bool). is_waiting (if b then Some one.1 else lookup (nat_eq other) waiting)) no)
    by false same more = step (nat_eq other one.0) more
      where
        step : (here : Bool) → waits_in (insert_entry nat_eq waiting block place) other ≡ waits_in waiting other
            → is_waiting (if here then Some one.1 else lookup (nat_eq other) (insert_entry nat_eq waiting block place))
            ≡ is_waiting (if here then Some one.1 else lookup (nat_eq other) waiting)
        step true h = refl
        step false h = h

-- where none is the first that waits, none waits
pub none_waiting : (waiting : List (ℕ × Option Place)) → first_waiting waiting ≡ None → (block : ℕ) → waits_in waiting block ≡ false
none_waiting [] none block = refl
none_waiting (one ∷ waiting) none block = by one.1 (nat_eq block one.0) none (λ h. none_waiting waiting h block)
  where
    by : (place : Option Place) (here : Bool) → option_or place (first_waiting waiting) ≡ None
        → (first_waiting waiting ≡ None → waits_in waiting block ≡ false) → is_waiting (if here then Some place else lookup (nat_eq block) waiting) ≡ false
    by None true h more = refl
    by None false h more = more h
    by (Some place) here h more = absurd cc

-- ---- how often a number stands in a list

abbrev pub one_if : Bool → ℕ
one_if true = 1
one_if false = 0

abbrev pub count_of : ℕ → List ℕ → ℕ
count_of number [] = 0
count_of number (one ∷ others) = one_if (nat_eq number one) + count_of number others

pub count_append : (number : ℕ) (first second : List ℕ) → count_of number (first ++ second) ≡ count_of number first + count_of number second
count_append number [] second = omega arith
count_append number (one ∷ first) second = omega (arith, count_append number first second)

-- a number that stands there
record Stands (number : ℕ) (all : List ℕ) : Type 0 where
  pub before : List ℕ
  pub behind : List ℕ
  pub at : all ≡ before ++ number ∷ behind

stands_there : (number : ℕ) (all : List ℕ) → 0 < count_of number all → Stands number all
stands_there number [] there = absurd (omega (arith, there))
stands_there number (one ∷ others) there = by (nat_eq number one) refl there (stands_there number others)
  where
    by : (test : Bool) → nat_eq number one ≡ test → 0 < one_if test + count_of number others → (0 < count_of number others → Stands number others)
        → Stands number (one ∷ others)
    by true same h more = record { before = []; behind = others; at = ap (λ n. n ∷ others) (sym (eqb-true number one same)) }
    by false same h more =
        let s = more (omega (arith, h)) in
        record { before = one ∷ s.before; behind = s.behind; at = ap (λ l. one ∷ l) s.at }

no_numbers : (all : List ℕ) → ((number : ℕ) → count_of number all ≡ 0) → all ≡ []
no_numbers [] none = refl
no_numbers (one ∷ others) none =
    let here : one_if (nat_eq one one) ≡ 1 = ap one_if (eq-eqb one one refl) in
    absurd (omega (arith, none one, here))

-- lists in which each number stands as often
pub same_counts : (first second : List ℕ) → ((number : ℕ) → count_of number first ≡ count_of number second) → IsPermutation first second
same_counts [] second same =
    subst (IsPermutation []) (sym (no_numbers second (λ number. sym (same number)))) (IsPermutation-refl [])
same_counts (one ∷ first) second same =
    let here : one_if (nat_eq one one) ≡ 1 = ap one_if (eq-eqb one one refl) in
    let s = stands_there one second (omega (arith, same one, here)) in
    let rest : IsPermutation first (s.before ++ s.behind) =
    same_counts first (s.before ++ s.behind)
    (λ number.
    let split = ap (count_of number) s.at ∙ count_append number s.before (one ∷ s.behind) in
    omega (arith, same number, split, count_append number s.before s.behind)) in
    subst (IsPermutation (one ∷ first)) (sym s.at)
    (IsPermutation-trans (one ∷ first) (one ∷ (s.before ++ s.behind)) (s.before ++ one ∷ s.behind)
    (IsPermutation-cons one first (s.before ++ s.behind) rest)
    (IsPermutation-sym (s.before ++ one ∷ s.behind) (one ∷ (s.before ++ s.behind)) (IsPermutation-middle s.before one s.behind)))

-- numbers one after another
pub count_range : (number start many : ℕ) → count_of number (range_with_len start many) ≡ one_if (nat_le start number && nat_lt number (start + many))
count_range number start zero = grind (arith, nat_tests)
count_range number start (suc many) = by (nat_eq number start) refl (count_range number (start + 1) many)
  where
    by : (test : Bool) → nat_eq number start ≡ test
        → count_of number (range_with_len (start + 1) many) ≡ one_if (nat_le (start + 1) number && nat_lt number ((start + 1) + many))
        → one_if test + count_of number (range_with_len (start + 1) many) ≡ one_if (nat_le start number && nat_lt number (start + suc many))
    by true same more = grind (arith, nat_tests)
    by false same more = grind (arith, nat_tests)
