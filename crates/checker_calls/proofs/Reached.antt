-- What an access reaches in a row of components has a value, where that is given.
use Rattle.std.proofs.Common.{arith, ◌≡◌, ⊎_elim, ◌⊎◌, inl, inr, ◌∙◌, ap, sym, refl, subst, ℕ, ℤ, ◌≤ℤ◌, Bool, true}
use Rattle.std.proofs.Common.{false, cond, List, [], ◌∷◌, ◌++◌, Option, Some}
use Rattle.std.proofs.Common.{None}
use Rattle.std.proofs.lemmas.Bool.{false≢true, or_cases}
use Rattle.std.proofs.lemmas.Int.{ints}
use Rattle.std.proofs.lemmas.Option.{none-some, same_Some}
use Rattle.types.specs.declared.form.Step.{Step}
use Rattle.types.specs.declared.form.Step.TheVariants as step
use Rattle.typed_tree.specs.Accesses.{index_count}
use Rattle.typed_tree.specs.declared.tree.Selector.{Selector}
use Rattle.typed_tree.specs.declared.tree.Selector.TheVariants.{Element, Field}
use Rattle.checker_rows.proofs.Selected.{Matches}
use Rattle.domain.specs.Interval.{HasMember, Interval}
use Rattle.meaning.specs.declared.value.Value.TheVariants.{Number}
use Rattle.meaning.specs.Integers.{is_integer_number}
use Rattle.meaning.specs.Store.{Environment, Store}
use Rattle.checker_rows.specs.Rows.{Parts, first_index, indexes_of}
use Rattle.checker_state.specs.Bounds.{Bound, constant}
use Rattle.checker_state.specs.State.{Claim, Dead, Defined, Live, Span, State, Table, in_spans, is_dead, state_gives}
use Rattle.checker_state.specs.Changes.{span_between}
use Rattle.checker_state.specs.Stores.{Index, Reach, form_span, gives_block, gives_both, gives_form, gives_index, gives_indexes, gives_inner}
use Rattle.checker_state.specs.Stores.{gives_reached, gives_some, point, range_span}
use Rattle.checker_state.specs.Holds.{AreBounds, AreDefined, HasComponent, HoldNumbers, IsBound, IsOfRow, LieBetween, Moment, Numbers, moment}
use Rattle.checker_state.specs.Knows.{AreRows, Knows}
use Rattle.checker_state.proofs.Given.{first-of, given-holds}
use Rattle.checker_calls.proofs.Passed.{AreIndexesOn, IsIndexOn, IsReachedBy}

-- a state that is known isn't dead
pub alive : (rows : List Parts) (roots : ℕ) (env : Environment) (state : State) (store : Store) → Knows rows roots env state store
    → is_dead state ≡ false
alive rows roots env Dead store known = absurd known.holds
alive rows roots env (Live facts) store known = refl

-- the first of the indexes on a way
first-on : (way : List Step) (number : ℤ) (numbers : List ℤ) → indexes_of way ≡ number ∷ numbers → first_index way ≡ Some number
first-on [] number numbers is = absurd (cc)
first-on (step.Element index ∷ way) number numbers is = let same : index ≡ number = cc in ap (λ (n : ℤ). Some n) same
first-on (step.Field position ∷ way) number numbers is = first-on way number numbers is

-- it stays that, whatever steps follow
pub first-then : (way more : List Step) (number : ℤ) → first_index way ≡ Some number → first_index (way ++ more) ≡ Some number
first-then [] more number is = absurd (cc)
first-then (step.Element index ∷ way) more number is = is
first-then (step.Field position ∷ way) more number is = first-then way more number is

-- the indexes on a way and behind it
pub indexes-behind : (way more : List Step) → indexes_of (way ++ more) ≡ indexes_of way ++ indexes_of more
indexes-behind [] more = refl
indexes-behind (step.Element index ∷ way) more = ap (λ (rest : List ℤ). index ∷ rest) (indexes-behind way more)
indexes-behind (step.Field position ∷ way) more = indexes-behind way more

-- behind fields alone they are those of what follows
pub indexes-behind_fields : (selectors : List Selector) (way rest : List Step) → index_count selectors ≡ 0 → Matches selectors way
    → indexes_of (way ++ rest) ≡ indexes_of rest
indexes-behind_fields [] [] rest none matches = refl
indexes-behind_fields [] (s ∷ way) rest none matches = absurd matches
indexes-behind_fields (Element fits cells ∷ selectors) way rest none matches = absurd (omega (arith, none))
indexes-behind_fields (Field position offset ∷ selectors) [] rest none matches = absurd matches
indexes-behind_fields (Field position offset ∷ selectors) (step.Element index ∷ way) rest none matches = absurd matches
indexes-behind_fields (Field position offset ∷ selectors) (step.Field place ∷ way) rest none matches =
    indexes-behind_fields selectors way rest none matches.1

-- a bound is one number
pub bound-one : (m : Moment) (b : Bound) (x y : ℤ) → IsBound m b x → IsBound m b y → x ≡ y
bound-one m b x y one two = by b.root one two
  where
    by : (root : Option ℕ) → IsBound m (record { root = root; number = b.number }) x → IsBound m (record { root = root; number = b.number }) y → x ≡ y
    by None one two = sym one ∙ two
    by (Some root) (i, has_i, one) (j, has_j, two) =
        let same : Some (Number i) ≡ Some (Number j) = sym has_i ∙ has_j in
        let number : i ≡ j = cc in
        omega (arith, ints, one, two, number)

-- the span between two bounds
abbrev span_of : Bound → Bound → Span
span_of first last = record { first = first; last = last }

abbrev between : ℕ → Bound → Bound → Claim
between row first last = in_spans row (span_of first last ∷ [])

module _ (rows : List Parts) (table : Table) (are : AreRows rows table) (env : Environment) (state : State) (store : Store)
    (ordinals : HoldNumbers table.ordinal (moment env store)) (known : Knows rows table.variables env state store) where
  abbrev m : Moment
  m = moment env store

  -- between two bounds
  between-has : (row : ℕ) (first last : Bound) (number : ℤ) (steps : List Step) → IsOfRow rows row steps → first_index steps ≡ Some number
      → ((n : ℤ) → IsBound m first n → n ≤ℤ number) → ((n : ℤ) → IsBound m last n → number ≤ℤ n)
      → state_gives table state (between row first last) ≡ true → HasComponent rows m row steps
  between-has row first last number steps of_row at low high is =
      let holds = given-holds rows table are env state store (between row first last) ordinals known is in by holds.0 holds.1 holds.2
    where
      by : (numbers : List Numbers) → AreBounds m (span_of first last ∷ []) numbers → AreDefined rows row numbers m → HasComponent rows m row steps
      by [] bounds defined = absurd bounds
      by (one ∷ []) bounds defined =
          defined steps number of_row at
          (subst (λ (list : List ℤ). LieBetween (one ∷ []) list) (sym (first-of steps number at).1) (low one.first bounds.0, high one.last bounds.1, tt))
      by (one ∷ other ∷ more) bounds defined = absurd bounds.2

  -- between two numbers
  numbers-has : (row : ℕ) (from to number : ℤ) (steps : List Step) → IsOfRow rows row steps → first_index steps ≡ Some number → from ≤ℤ number
      → number ≤ℤ to → state_gives table state (between row (constant from) (constant to)) ≡ true → HasComponent rows m row steps
  numbers-has row from to number steps of_row at low high is =
      between-has row (constant from) (constant to) number steps of_row at (λ n same. subst (λ (k : ℤ). k ≤ℤ number) same low)
      (λ n same. subst (λ (k : ℤ). number ≤ℤ k) same high) is

  -- an index that lies in its range, or is of its form
  form-has : (row : ℕ) (steps : List Step) (number : ℤ) (form : Option Bound) → ((b : Bound) → form ≡ Some b → IsBound m b number)
      → IsOfRow rows row steps → first_index steps ≡ Some number → gives_form table state row form ≡ true → HasComponent rows m row steps
  form-has row steps number None of_form of_row first is = absurd (false≢true is)
  form-has row steps number (Some b) of_form of_row first is =
      let own = of_form b refl in
      between-has row b b number steps of_row first
      (λ n bound. let same : n ≡ number = bound-one m b n number bound own in omega (arith, ints, same))
      (λ n bound. let same : n ≡ number = bound-one m b n number bound own in omega (arith, ints, same)) is

  stretch-is : (row : ℕ) (range : Interval) (a b : Bool)
      → gives_some table state row (span_between (cond a (Some (constant range.first)) None) (cond b (Some (constant range.last)) None)) ≡ true
      → (is_dead state ≡ true) ⊎ (state_gives table state (between row (constant range.first) (constant range.last)) ≡ true)
  stretch-is row range true true is = inr is
  stretch-is row range true false is = inl is
  stretch-is row range false b is = inl is

  range-has : (row : ℕ) (steps : List Step) (number : ℤ) (range : Interval) → HasMember range number → IsOfRow rows row steps
      → first_index steps ≡ Some number → gives_some table state row (range_span range) ≡ true → HasComponent rows m row steps
  range-has row steps number range inside of_row first is =
      ⊎_elim (λ dead. absurd (false≢true (sym (alive rows table.variables env state store known) ∙ dead)))
      (λ given. numbers-has row range.first range.last number steps of_row first inside.0 inside.1 given)
      (stretch-is row range (is_integer_number range.first) (is_integer_number range.last) is)

  index-has : (row : ℕ) (steps : List Step) (number : ℤ) (index : Index) → IsIndexOn env store index number → IsOfRow rows row steps
      → first_index steps ≡ Some number → gives_index table state row index ≡ true → HasComponent rows m row steps
  index-has row steps number index on of_row first is =
      ⊎_elim (λ formed. form-has row steps number index.form on.of_form of_row first formed)
      (λ ranged. range-has row steps number index.range on.in_range of_row first ranged)
      (or_cases (gives_form table state row index.form) (gives_some table state row (range_span index.range)) is)

  -- an index lies in a span
  abbrev Has : Span → ℤ → Type 0
  Has span number = (own : Numbers) → IsBound m span.first own.first → IsBound m span.last own.last → (own.first ≤ℤ number) × (number ≤ℤ own.last)

  HasIf : Option Span → ℤ → Type 0
  HasIf found number = (span : Span) → found ≡ Some span → Has span number

  form-lies : (form : Option Bound) (number : ℤ) → ((b : Bound) → form ≡ Some b → IsBound m b number) → HasIf (form_span form) number
  unfolding HasIf
  form-lies None number of_form span is = absurd (none-some span is)
  form-lies (Some b) number of_form span is = subst (λ (s : Span). Has s number) (same_Some (point b) span is) (λ own first last.
      let low = bound-one m b own.first number first (of_form b refl) in
      let high = bound-one m b own.last number last (of_form b refl) in
      (omega (arith, ints, low), omega (arith, ints, high)))

  range-lies : (range : Interval) (number : ℤ) → HasMember range number → HasIf (range_span range) number
  unfolding HasIf
  range-lies range number inside = by (is_integer_number range.first) (is_integer_number range.last)
    where
      by : (a b : Bool) → HasIf (span_between (cond a (Some (constant range.first)) None) (cond b (Some (constant range.last)) None)) number
      by true true span is =
          subst (λ (s : Span). Has s number) (same_Some (span_of (constant range.first) (constant range.last)) span is) (λ own first last.
          let low = inside.0 in
          let high = inside.1 in
          (omega (arith, ints, low, first), omega (arith, ints, high, last)))
      by true false span is = absurd (none-some span is)
      by false b span is = absurd (none-some span is)

  module _ (row : ℕ) (steps : List Step) (number next : ℤ) (rest : List ℤ) (of_row : IsOfRow rows row steps) (first : first_index steps ≡ Some number)
      (indexes_are : indexes_of steps ≡ number ∷ next ∷ rest) where
    -- between two spans
    spans-has : (span inner : Span) → Has span number → Has inner next
        → state_gives table state (in_spans row (span ∷ inner ∷ [])) ≡ true → HasComponent rows m row steps
    spans-has span inner one two is =
        let claim = in_spans row (span ∷ inner ∷ []) in
        let holds = given-holds rows table are env state store claim ordinals known is in by holds.0 holds.1 holds.2
      where
        by : (numbers : List Numbers) → AreBounds m (span ∷ inner ∷ []) numbers → AreDefined rows row numbers m → HasComponent rows m row steps
        by [] bounds defined = absurd bounds
        by (own ∷ []) bounds defined = absurd bounds.2
        by (own ∷ within ∷ other ∷ more) bounds defined = absurd bounds.2.2
        by (own ∷ within ∷ []) bounds defined =
            let a = one own bounds.0 bounds.1 in
            let b = two within bounds.2.0 bounds.2.1 in
            defined steps number of_row first
            (subst (λ (list : List ℤ). LieBetween (own ∷ within ∷ []) list) (sym indexes_are) (a.0, a.1, (b.0, b.1, tt)))

    block-has : (span inner : Option Span) → HasIf span number → HasIf inner next → gives_block table state row span inner ≡ true
        → HasComponent rows m row steps
    unfolding HasIf
    block-has None inner one two is = absurd (false≢true is)
    block-has (Some span) None one two is = absurd (false≢true is)
    block-has (Some span) (Some inner) one two is = spans-has span inner (one span refl) (two inner refl) is

    inner-has : (span : Option Span) (index : Index) → HasIf span number → IsIndexOn env store index next → gives_inner table state row span index ≡ true
        → HasComponent rows m row steps
    inner-has span index one on is =
        ⊎_elim (λ formed. block-has span (form_span index.form) one (form-lies index.form next on.of_form) formed)
        (λ ranged. block-has span (range_span index.range) one (range-lies index.range next on.in_range) ranged)
        (or_cases (gives_block table state row span (form_span index.form)) (gives_block table state row span (range_span index.range)) is)

    both-has : (index inner : Index) → IsIndexOn env store index number → IsIndexOn env store inner next → gives_both table state row index inner ≡ true
        → HasComponent rows m row steps
    both-has index inner on within is =
        ⊎_elim (λ formed. inner-has (form_span index.form) inner (form-lies index.form number on.of_form) within formed)
        (λ ranged. inner-has (range_span index.range) inner (range-lies index.range number on.in_range) within ranged)
        (or_cases (gives_inner table state row (form_span index.form) inner) (gives_inner table state row (range_span index.range) inner) is)

  -- what is reached in a row has a value, where that is given
  pub reached-has : (selectors : List Selector) (row : ℕ) (way rest : List Step) (reach : Reach) → IsReachedBy env store selectors way reach
      → IsOfRow rows row (way ++ rest) → gives_reached table state reach row ≡ true → HasComponent rows m row (way ++ rest)
  reached-has selectors row way rest reach reached of_row is = by reach.indexes (indexes_of way) refl reached.indexes is
    where
      by : (indexes : List Index) (numbers : List ℤ) → indexes_of way ≡ numbers → AreIndexesOn env store indexes numbers
          → gives_indexes table state row indexes ≡ true → HasComponent rows m row (way ++ rest)
      by [] numbers at on is = given-holds rows table are env state store (Defined row) ordinals known is (way ++ rest) of_row
      by (index ∷ indexes) [] at on is = absurd on
      by (index ∷ []) (number ∷ numbers) at on is =
          index-has row (way ++ rest) number index on.0 of_row (first-then way rest number (first-on way number numbers at)) is
      by (index ∷ inner ∷ indexes) (number ∷ []) at on is = absurd on.1
      by (index ∷ inner ∷ indexes) (number ∷ next ∷ numbers) at on is =
          let first = first-then way rest number (first-on way number (next ∷ numbers) at) in
          ⊎_elim (λ one. index-has row (way ++ rest) number index on.0 of_row first one)
          (λ both.
          both-has row (way ++ rest) number next (numbers ++ indexes_of rest) of_row first
          (indexes-behind way rest ∙ ap (λ (list : List ℤ). list ++ indexes_of rest) at) index inner on.0 on.1.0 both)
          (or_cases (gives_index table state row index) (gives_both table state row index inner) is)
