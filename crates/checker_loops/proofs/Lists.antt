-- Items of lists: what is among them, of maps, filters and joined lists.
use Rattle.std.proofs.Common.{arith, ◌≡◌, ⊎_elim, ◌∙◌, sym, ap, refl, subst, ℕ, zero, suc, ◌<◌, Bool, true, false, ◌||◌, filter, nat_eq, List, [], ◌∷◌, length}
use Rattle.std.proofs.Common.{map, Option, Some, None}
use Rattle.std.specs.List.{Contains, cons_option, filter_map, flat_map}
use Rattle.std.specs.Prelude.{slice_get}
use Rattle.std.proofs.lemmas.Bool.{eq-eqb, eqb-true, false≢true, or_left, or_right}
use Rattle.std.proofs.lemmas.List.Elements.{All-contains, All-contains_itself, All-filter, Contains-append_cases, Contains-append_left}
use Rattle.std.proofs.lemmas.List.Elements.{Contains-append_right, filter_passes}
use Rattle.checker_state.specs.Loops.{is_among}

pub some-there : {A : Type 0} (items : List A) (k : ℕ) → k < length items → (item : A) × (slice_get items k ≡ Some item)
some-there [] k within = absurd (omega (arith, within))
some-there (item ∷ items) zero within = (item, refl)
some-there (item ∷ items) (suc k) within = some-there items k (omega (arith, within))

pub contains-more : {A : Type 0} (first : A) (items : List A) (item : A) → Contains items item → Contains (first ∷ items) item
contains-more first items item (k, within, at) = (suc k, omega (arith, within), at)

pub in-one : {A : Type 0} (one item : A) → Contains (one ∷ []) item → one ≡ item
in-one one item (zero, within, at) = at
in-one one item (suc k, within, at) = absurd (omega (arith, within))

-- ---- numbers

pub among-contains : (items : List ℕ) (item : ℕ) → is_among item items ≡ true → Contains items item
among-contains [] item is = absurd (false≢true is)
among-contains (first ∷ items) item is = by (nat_eq first item) refl is (λ later. among-contains items item later)
  where
    by : (same : Bool) → nat_eq first item ≡ same → (same || is_among item items) ≡ true → (is_among item items ≡ true → Contains items item)
        → Contains (first ∷ items) item
    by true same is rest = (0, omega arith, eqb-true first item same)
    by false same is rest = contains-more first items item (rest is)

pub contains-among : (items : List ℕ) (item : ℕ) → Contains items item → is_among item items ≡ true
contains-among [] item (k, within, at) = absurd (omega (arith, within))
contains-among (first ∷ items) item (zero, within, at) = or_left (nat_eq first item) (is_among item items) (eq-eqb first item at)
contains-among (first ∷ items) item (suc k, within, at) =
    or_right (nat_eq first item) (is_among item items) (contains-among items item (k, omega (arith, within), at))

-- ---- maps

pub in-map : {A B : Type 0} (f : A → B) (items : List A) (item : A) → Contains items item → Contains (map f items) (f item)
in-map f [] item inside = absurd (omega (arith, inside.1))
in-map f (first ∷ items) item (zero, within, at) = (0, omega arith, ap f at)
in-map f (first ∷ items) item (suc k, within, at) = contains-more (f first) (map f items) (f item) (in-map f items item (k, omega (arith, within), at))

pub of-map : {A B : Type 0} (f : A → B) (items : List A) (y : B) → Contains (map f items) y → (x : A) × Contains items x × (f x ≡ y)
of-map f [] y inside = absurd (omega (arith, inside.1))
of-map f (first ∷ items) y (zero, within, at) = (first, (0, omega arith, refl), at)
of-map f (first ∷ items) y (suc k, within, at) =
    let found = of-map f items y (k, omega (arith, within), at) in (found.0, contains-more first items found.0 found.1, found.2)

-- ---- lists that are joined

pub in-flat : {A B : Type 0} (f : A → List B) (items : List A) (item : A) (y : B) → Contains items item → Contains (f item) y → Contains (flat_map f items) y
in-flat f [] item y inside own = absurd (omega (arith, inside.1))
in-flat f (first ∷ items) item y (zero, within, at) own =
    Contains-append_left (f first) (flat_map f items) y (subst (λ i. Contains (f i) y) (sym at) own)
in-flat f (first ∷ items) item y (suc k, within, at) own =
    Contains-append_right (f first) (flat_map f items) y (in-flat f items item y (k, omega (arith, within), at) own)

pub of-flat : {A B : Type 0} (f : A → List B) (items : List A) (y : B) → Contains (flat_map f items) y → (item : A) × Contains items item × Contains (f item) y
of-flat f [] y inside = absurd (omega (arith, inside.1))
of-flat f (first ∷ items) y inside =
    ⊎_elim (λ here. (first, (0, omega arith, refl), here))
    (λ there. let more = of-flat f items y there in (more.0, contains-more first items more.0 more.1, more.2))
    (Contains-append_cases (f first) (flat_map f items) y inside)

-- one that is among what is made of an item, is among what is made of all
pub among-flat : (f : ℕ → List ℕ) (items : List ℕ) (item x : ℕ) → Contains items item → is_among x (f item) ≡ true → is_among x (flat_map f items) ≡ true
among-flat f items item x inside among =
    contains-among (flat_map f items) x (in-flat f items item x inside (among-contains (f item) x among))

-- ---- some of them

pub in-filter_map : {A B : Type 0} (f : A → Option B) (items : List A) (item : A) (y : B) → Contains items item → f item ≡ Some y
    → Contains (filter_map f items) y
in-filter_map f [] item y inside is = absurd (omega (arith, inside.1))
in-filter_map f (first ∷ items) item y (zero, within, at) is =
    subst (λ found. Contains (cons_option found (filter_map f items)) y) (sym (ap f at ∙ is)) (0, omega arith, refl)
in-filter_map f (first ∷ items) item y (suc k, within, at) is = by (f first) (in-filter_map f items item y (k, omega (arith, within), at) is)
  where
    by : (found : Option _) → Contains (filter_map f items) y → Contains (cons_option found (filter_map f items)) y
    by None later = later
    by (Some x) later = contains-more x (filter_map f items) y later

pub filtered : {A : Type 0} (test : A → Bool) (items : List A) (item : A) → Contains (filter test items) item → Contains items item × (test item ≡ true)
filtered test items item inside = (
  All-contains (Contains items) (filter test items) item (All-filter test (Contains items) items (All-contains_itself items)) inside,
  All-contains (λ (x : _). test x ≡ true) (filter test items) item (filter_passes test items) inside,
)
