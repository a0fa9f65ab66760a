-- What is known after values were stored to components of rows holds.
use Rattle.std.proofs.Common.{arith, ◌≡◌, ◌⊎◌, ⊎_elim, inl, inr, ◌∙◌, sym, ap, refl, subst, ℕ, ℤ, pos, ◌+ℤ◌, ◌≤ℤ◌, ◌≤◌, Bool, true, false, cond, ◌&&◌}
use Rattle.std.proofs.Common.{nat_eq, List, [], ◌∷◌, ◌++◌, get_or, map, Option, Some, None}
use Rattle.std.specs.List.{Contains, filter, filter_map, list_any}
use Rattle.std.proofs.lemmas.Int.{ints, by_lt_z}
use Rattle.std.proofs.lemmas.Bool.{and_parts, both_ways, cases_Bool, eq-eqb, eqb-true}
use Rattle.std.proofs.lemmas.Option.{none-some, same_Some}
use Rattle.domain.specs.declared.versions.Extension.TheVariants.{Boxes}
use Rattle.domain.specs.Interval.{Interval, joined}
use Rattle.domain.specs.Versions.{has}
use Rattle.types.specs.declared.form.Step.{Step}
use Rattle.meaning.specs.declared.value.Value.{Value}
use Rattle.meaning.specs.declared.value.Value.TheVariants.{Number}
use Rattle.meaning.specs.Store.{Environment, Store}
use Rattle.checker_rows.specs.Rows.{Parts, first_index, indexes_of, no_parts}
use Rattle.checker_state.specs.Bounds.{Bound}
use Rattle.checker_state.specs.declared.growing.Growing.{Growing}
use Rattle.checker_state.specs.State.{Dead, Facts, Held, Live, Ordered, Span, State, Stretched, Table, is_next, le, range_of, row_at, stretched, with_defined}
use Rattle.checker_state.specs.State.{with_range}
use Rattle.checker_state.specs.Loops.{is_among}
use Rattle.checker_state.specs.Stores.{Index, Reach, all_stored, is_at, is_none, longer, longer_by, longer_of, longer_span, or_alone, point}
use Rattle.checker_state.specs.Stores.{stored, stored_at, with_both, with_joined, with_some_element}
use Rattle.checker_state.specs.Holds.{AreBounds, FactsHold, GrowthHolds, HasComponent, HeldHolds, IsBound, IsIn, IsOfRow, LieBetween, Moment, Numbers}
use Rattle.checker_state.specs.Holds.{StateHolds, StretchHolds, component_at, moment, value_at}
use Rattle.checker_state.specs.Knows.{AreIndexes, AreRows, AreStored, BeginWith, IsIndex, IsLoose, IsLooseIn, IsReach, IsReachApart, Knows}
use Rattle.checker_state.specs.Knows.{Shows}
use Rattle.checker_state.specs.Laws.{StoresHold}
use Rattle.checker_state.proofs.Bounds.{IsTold, le-is, next-is}
use Rattle.checker_state.proofs.Changed.{KeepNumbers, bound-stays, held-stays, when-some}
use Rattle.checker_state.proofs.Lists.{Each, any-in, at-head, head-or_tail, in-filter, in-filter_map, in-none, in-tail, none-in, with_more-each}
use Rattle.checker_state.proofs.Ranged.{in-left, in-right}
use Rattle.checker_state.proofs.Rows.{HoldsWhere, defined-where, growth-stays, lost-where, of_own, range-where, root-own, shown, where-all}

-- a row is among those of some stores
abbrev Pending : List (ℕ × Interval) → ℕ → Type 0
Pending stores row = (one : ℕ × Interval) × Contains stores one × (one.0 ≡ row)

least-cases : (x y : ℤ) → x ≤ℤ (y +ℤ pos 1) → (x ≤ℤ y) ⊎ (x ≡ (y +ℤ pos 1))
least-cases x y less = by_lt_z x (y +ℤ pos 1) (λ below. inl (omega (arith, ints))) (λ above. inr (omega (arith, ints)))

or_alone-each : (P : Held → Type 0) (row : ℕ) (bounds : List Bound) (list : List Held) → P (stretched row (map point bounds)) → Each P list
    → Each P (or_alone row bounds list)
or_alone-each P row bounds [] so each one inside =
    ⊎_elim (λ same. subst P same so) (λ none. absurd (in-none one none)) (head-or_tail (stretched row (map point bounds)) one [] inside)
or_alone-each P row bounds (first ∷ list) so each one inside = each one inside

-- one of two tests passed
either-some : (test next : Bool) (one more other : Span) → cond test (Some one) (cond next (Some more) None) ≡ Some other
    → ((test ≡ true) × (one ≡ other)) ⊎ ((next ≡ true) × (more ≡ other))
either-some true next one more other is = inl (refl, same_Some one other is)
either-some false true one more other is = inr (refl, same_Some more other is)
either-some false false one more other is = absurd (none-some other is)

-- of two that may be there one is, by a test
one-of : (test : Bool) (one rest : Option Held) (other : Held) → cond test one rest ≡ Some other
    → ((test ≡ true) × (one ≡ Some other)) ⊎ (rest ≡ Some other)
one-of true one rest other is = inl (refl, is)
one-of false one rest other is = inr is

longer-some : (row : ℕ) (front back : List Bound) (found : Option Span) (other : Held) → longer_of row front back found ≡ Some other
    → (span : Span) × (found ≡ Some span) × (stretched row (map point front ++ span ∷ map point back) ≡ other)
longer-some row front back None other is = absurd (none-some other is)
longer-some row front back (Some span) other is =
    (span, refl, same_Some (stretched row (map point front ++ span ∷ map point back)) other is)

-- ---- single indexes

-- the numbers of some bounds
abbrev AreNumbers : Moment → List Bound → List ℤ → Type 0
AreNumbers m [] [] = Unit {0}
AreNumbers m [] (number ∷ numbers) = ⊥
AreNumbers m (bound ∷ bounds) [] = ⊥
AreNumbers m (bound ∷ bounds) (number ∷ numbers) = IsBound m bound number × AreNumbers m bounds numbers

-- the span of a single number
abbrev just : ℤ → Numbers
just number = record { first = number; last = number }

points-are : (m : Moment) (bounds : List Bound) (numbers : List ℤ) → AreNumbers m bounds numbers → AreBounds m (map point bounds) (map just numbers)
points-are m [] [] are = tt
points-are m [] (number ∷ numbers) are = absurd are
points-are m (bound ∷ bounds) [] are = absurd are
points-are m (bound ∷ bounds) (number ∷ numbers) are = (are.0, are.0, points-are m bounds numbers are.1)

points-then : (m : Moment) (bounds : List Bound) (numbers : List ℤ) (back : List Bound) (backs : List ℤ) (span : Span) (own : Numbers)
    → AreNumbers m bounds numbers → AreNumbers m back backs → IsBound m span.first own.first → IsBound m span.last own.last
    → AreBounds m (map point bounds ++ span ∷ map point back) (map just numbers ++ own ∷ map just backs)
points-then m [] [] back backs span own are behind first last = (first, last, points-are m back backs behind)
points-then m [] (number ∷ numbers) back backs span own are behind first last = absurd are
points-then m (bound ∷ bounds) [] back backs span own are behind first last = absurd are
points-then m (bound ∷ bounds) (number ∷ numbers) back backs span own are behind first last =
    (are.0, are.0, points-then m bounds numbers back backs span own are.1 behind first last)

-- what lies between single numbers begins with them
single-begin : (numbers indexes : List ℤ) → LieBetween (map just numbers) indexes → BeginWith numbers indexes
single-begin [] indexes lie = tt
single-begin (number ∷ numbers) [] lie = absurd lie
single-begin (number ∷ numbers) (index ∷ indexes) lie =
    let low = lie.0 in
    let high = lie.1 in
    (let same : index ≡ number = omega (arith, ints, low, high) in same, single-begin numbers indexes lie.2)

-- where single numbers stand before and behind a span, an index lies in it
record Amid (front back : List ℤ) (own : Numbers) (indexes : List ℤ) : Type 0 where
  index : ℤ
  low : own.first ≤ℤ index
  high : index ≤ℤ own.last
  begin : (number : ℤ) → index ≡ number → BeginWith (front ++ number ∷ back) indexes
  lie : (other : Numbers) → other.first ≤ℤ index → index ≤ℤ other.last → LieBetween (map just front ++ other ∷ map just back) indexes

amid : (front back : List ℤ) (own : Numbers) (indexes : List ℤ) → LieBetween (map just front ++ own ∷ map just back) indexes
    → Amid front back own indexes
amid [] back own [] lie = absurd lie
amid [] back own (index ∷ indexes) lie = record {
  index = index;
  low = lie.0;
  high = lie.1;
  begin = λ number same. (same, single-begin back indexes lie.2);
  lie = λ other low high. (low, high, lie.2);
}
amid (number ∷ front) back own [] lie = absurd lie
amid (number ∷ front) back own (index ∷ indexes) lie =
    let rest = amid front back own indexes lie.2 in
    let low = lie.0 in
    let high = lie.1 in
    let same : index ≡ number = omega (arith, ints, low, high) in record {
      index = rest.index;
      low = rest.low;
      high = rest.high;
      begin = λ number same_one. (same, rest.begin number same_one);
      lie = λ other from to. (low, high, rest.lie other from to);
    }

module _ (rows : List Parts) (table : Table) (are : AreRows rows table) (env : Environment) (shows : Shows table.variables env) (aliases : List ℕ)
    (reach : Reach) (stores : List (ℕ × Interval)) (before after : Store) (inner : Each (λ one. table.variables ≤ one.0) stores)
    (are_stored : AreStored rows env aliases reach stores before after) where
  abbrev Before : Moment
  Before = moment env before

  abbrev After : Moment
  After = moment env after

  abbrev root_at : ℕ → ℕ
  root_at row = (get_or rows row no_parts).root

  -- while some stores are still to be passed, of their rows' ranges so much is claimed: they have the values that were
  -- there before
  abbrev Unpassed : List (ℕ × Interval) → ℕ → List Step → Value → Type 0
  Unpassed rest row steps v = Pending rest row → component_at rows Before row steps ≡ Some v

  abbrev StateWhere : List (ℕ × Interval) → State → Type 0
  StateWhere rest Dead = ⊥
  StateWhere rest (Live known) = HoldsWhere rows After (Unpassed rest) [] known

  -- ---- where the first store begins

  -- a whole variable has the value that it had
  whole-stays : (root : ℕ) → is_among root aliases ≡ false → value_at After root [] ≡ value_at Before root []
  whole-stays root free = are_stored.others root [] free (λ one listed of_row same. are.inner (one.0) (inner one listed) of_row)

  keep : KeepNumbers aliases Before After
  keep root n free has = whole-stays root free ∙ has

  -- a row that no store has is as it was
  unstored : (row : ℕ) (steps : List Step) → IsOfRow rows row steps → is_among (root_at row) aliases ≡ false
      → list_any (λ one. nat_eq one.0 row) stores ≡ false → component_at rows After row steps ≡ component_at rows Before row steps
  unstored row steps of_row other free =
      are_stored.others (root_at row) steps other (λ one listed of_one same.
      both_ways (nat_eq one.0 row) (none-in (λ one. nat_eq one.0 row) stores free one listed)
      (eq-eqb (one.0) row (are.apart (one.0) row steps of_one of_row same)))

  first-where : (known : Facts) → IsLoose rows env aliases known after → FactsHold rows known Before → StateWhere stores (Live known)
  first-where known loose holds = record {
    count = holds.count;
    each = λ row. record {
      range = λ steps v of_row there unpassed.
          let test = λ (one : ℕ × Interval). nat_eq one.0 row in
          ⊎_elim
          (λ some.
          let found = any-in test stores some in
          holds.ranges row steps v of_row (unpassed (found.0, found.1, eqb-true (found.0.0) row found.2)))
          (λ none.
          ⊎_elim (λ alias. loose.ranges row steps v alias of_row there)
          (λ other. holds.ranges row steps v of_row (sym (unstored row steps of_row other none) ∙ there)) (cases_Bool (is_among (root_at row) aliases)))
          (cases_Bool (list_any test stores));
      defined = λ kept is steps of_row. are_stored.defined (root_at row) steps (holds.defined row is steps of_row);
    };
    growths = λ root.
        let growth = (row_at known root).growth in
        ⊎_elim (λ alias. subst (λ (g : Option Growing). GrowthHolds root g After) (sym (loose.growths root alias)) tt)
        (λ free. growth-stays env before after root growth (λ n has. sym (whole-stays root free) ∙ has) (holds.growths root))
        (cases_Bool (is_among root aliases));
    held = λ one listed.
        held-stays Before After aliases keep rows (λ row steps index of_row first has. are_stored.defined (root_at row) steps has) one (loose.held one listed)
        (holds.held one listed);
  }

  -- ---- one store is passed

  module _ (one : ℕ × Interval) (rest : List (ℕ × Interval)) (listed : Contains stores one) (more : Each (Contains stores) rest) where
    abbrev row : ℕ
    row = one.0

    range-left : (range : Interval) (state : State)
        → ((steps : List Step) (v : Value) → IsOfRow rows row steps → component_at rows After row steps ≡ Some v → IsIn range v)
        → StateWhere (one ∷ rest) state → StateWhere rest (with_range row range state)
    range-left range Dead inside holds = absurd holds
    range-left range (Live known) inside holds =
        range-where rows After (Unpassed (one ∷ rest)) (Unpassed rest) [] known row range (λ steps v of_row there unpassed. inside steps v of_row there)
        (λ other steps v differ unpassed pending.
        let (next, inside, same) = pending in
        ⊎_elim (λ first. absurd (differ (sym same ∙ ap (λ (o : ℕ × Interval). o.0) (sym first)))) (λ later. unpassed (next, later, same))
        (head-or_tail one next rest inside)) holds

    range-in : (state : State) (steps : List Step) (v : Value) → StateWhere (one ∷ rest) state → IsOfRow rows row steps
        → component_at rows After row steps ≡ Some v → component_at rows Before row steps ≡ Some v → IsIn (range_of state row) v
    range-in Dead steps v holds of_row there was = absurd holds
    range-in (Live known) steps v holds of_row there was = (holds.each row).range steps v of_row there (λ pending. was)

    joined-left : (state : State) → StateWhere (one ∷ rest) state → StateWhere rest (with_joined row one.1 state)
    joined-left state holds =
        range-left (joined (range_of state row) one.1) state
        (λ steps v of_row there.
        ⊎_elim (λ was. in-left (range_of state row) one.1 v (range-in state steps v holds of_row there was))
        (λ inside. in-right (range_of state row) one.1 v inside) (are_stored.values one steps v listed of_row there)) holds

    whole-left : reach.is_all ≡ true → reach.indexes ≡ [] → (state : State) → StateWhere rest state → StateWhere rest (with_defined row state)
    whole-left all none Dead holds = absurd holds
    whole-left all none (Live known) holds =
        defined-where rows After (Unpassed rest) [] known row
        (λ steps of_row.
        are_stored.reached one steps listed of_row
        (all, ([], subst (λ (indexes : List Index). AreIndexes env before indexes []) (sym none) tt, tt)))
        (lost-where rows After (Unpassed rest) [] known row holds)

    -- ---- the components of first indexes

    module _ (known : Facts) (holds : HoldsWhere rows After (Unpassed rest) [] known) (numbers : List ℤ) (bounds : List Bound)
        (at : AreNumbers After bounds numbers)
        (reached : (steps : List Step) → IsOfRow rows row steps → BeginWith numbers (indexes_of steps) → HasComponent rows After row steps) where
      abbrev HoldsAfter : Held → Type 0
      HoldsAfter held = HeldHolds rows held After

      told : IsTold rows After known
      told = record {
        number = λ root n has.
            let within = shown table.variables env shows after root [] (Number n) has in
            (holds.each root).range [] (Number n) (of_own rows table are After root within)
            (ap (λ (r : ℕ). value_at After r []) (root-own rows table are After root within) ∙ has)
            (λ pending.
            let (next, inside, same) = pending in
            let behind = inner next (more next inside) in
            absurd (omega (arith, within, behind, same)));
        held = holds.held;
      }

      alone-holds : HoldsAfter (stretched row (map point bounds))
      alone-holds = (
        map just numbers,
        points-are After bounds numbers at,
        λ steps index of_row first lie. reached steps of_row (single-begin numbers (indexes_of steps) lie),
      )

      -- a span becomes longer by an index, between single ones
      module _ (front : List Bound) (fronts : List ℤ) (front_are : AreNumbers After front fronts) (back : List Bound) (backs : List ℤ)
          (back_are : AreNumbers After back backs) (bound : Bound) (number : ℤ) (bound_is : IsBound After bound number)
          (same : numbers ≡ fronts ++ number ∷ backs) where
        ranged : (first last : Bound) (low high : ℤ) → IsBound After first low → IsBound After last high
            → ((steps : List Step) (index : ℤ) → IsOfRow rows row steps → first_index steps ≡ Some index
            → (there : Amid fronts backs (record { first = low; last = high }) (indexes_of steps)) → HasComponent rows After row steps)
            → HoldsAfter (stretched row (map point front ++ record { first = first; last = last } ∷ map point back))
        ranged first last low high low_is high_is each = (
          map just fronts ++ record { first = low; last = high } ∷ map just backs,
          points-then After front fronts back backs (record { first = first; last = last }) (record { first = low; last = high }) front_are back_are
              low_is high_is,
          λ steps index of_row first lie.
              each steps index of_row first (amid fronts backs (record { first = low; last = high }) (indexes_of steps) lie),
        )

        -- the components of the index itself
        own-has : (steps : List Step) → IsOfRow rows row steps → BeginWith (fronts ++ number ∷ backs) (indexes_of steps) → HasComponent rows After row steps
        own-has steps of_row begin = reached steps of_row (subst (λ (n : List ℤ). BeginWith n (indexes_of steps)) (sym same) begin)

        longer-holds : (span other : Span) (from to : ℤ) → IsBound After span.first from → IsBound After span.last to
            → ((steps : List Step) (index : ℤ) → IsOfRow rows row steps → first_index steps ≡ Some index
            → LieBetween (map just fronts ++ record { first = from; last = to } ∷ map just backs) (indexes_of steps) → HasComponent rows After row steps)
            → longer_span known bound span ≡ Some other
            → HoldsAfter (stretched row (map point front ++ other ∷ map point back))
        longer-holds span other from to from_is to_is each is =
            ⊎_elim
            (λ (up : (is_next known span.last bound ≡ true) × (record span { last = bound } ≡ other)).
            let behind = next-is rows After known told span.last bound to number to_is bound_is up.0 in
            subst (λ (s : Span). HoldsAfter (stretched row (map point front ++ s ∷ map point back))) up.1
            (ranged span.first bound from number from_is bound_is (λ steps index of_row first there.
            ⊎_elim (λ inside. each steps index of_row first (there.lie (record { first = from; last = to }) there.low inside))
            (λ beyond. own-has steps of_row (there.begin number (beyond ∙ sym behind)))
            (least-cases there.index to (let high = there.high in omega (arith, ints, behind, high))))))
            (λ (down : (is_next known bound span.first ≡ true) × (record span { first = bound } ≡ other)).
            let ahead = next-is rows After known told bound span.first number from bound_is from_is down.0 in
            subst (λ (s : Span). HoldsAfter (stretched row (map point front ++ s ∷ map point back))) down.1
            (ranged bound span.last number to bound_is to_is (λ steps index of_row first there.
            by_lt_z number there.index
            (λ above. each steps index of_row first (there.lie (record { first = from; last = to }) (omega (arith, ints, ahead, above)) there.high))
            (λ below.
            let low = there.low in
            own-has steps of_row (there.begin number (let here : there.index ≡ number = omega (arith, ints, low, below) in here))))))
            (either-some (is_next known span.last bound) (is_next known bound span.first) (record span { last = bound }) (record span { first = bound }) other
            is)

      -- one index makes a stretch longer that has one span
      one-longer : (one : Bound) → bounds ≡ one ∷ [] → (spans : List Span) (other : Held) → longer_by known row (one ∷ []) spans ≡ Some other
          → StretchHolds rows (record { row = row; spans = spans }) After → HoldsAfter other
      one-longer one bounds_are [] other is holds_before = absurd (none-some other is)
      one-longer one bounds_are (span ∷ next ∷ spans) other is holds_before = absurd (none-some other is)
      one-longer one bounds_are (span ∷ []) other is ([], ends, each) = absurd ends
      one-longer one bounds_are (span ∷ []) other is (own ∷ two ∷ around, ends, each) = absurd ends.2
      one-longer one bounds_are (span ∷ []) other is (own ∷ [], ends, each) =
          let (new, new_is, same) = longer-some row [] [] (longer_span known one span) other is in
          by numbers refl (subst (λ (b : List Bound). AreNumbers After b numbers) bounds_are at) new new_is same
        where
          by : (all : List ℤ) → numbers ≡ all → AreNumbers After (one ∷ []) all → (new : Span) → longer_span known one span ≡ Some new
              → stretched row (new ∷ []) ≡ other → HoldsAfter other
          by [] all_are none new new_is same = absurd none
          by (number ∷ two ∷ all) all_are none new new_is same = absurd none.1
          by (number ∷ []) all_are (is_number, end) new new_is same =
              subst HoldsAfter same (longer-holds [] [] tt [] [] tt one number is_number all_are span new own.first own.last ends.0 ends.1 each new_is)

      -- two make one longer that has two, of which one is just its index
      two-longer : (one two : Bound) → bounds ≡ one ∷ two ∷ [] → (spans : List Span) (other : Held) → longer_by known row (one ∷ two ∷ []) spans ≡ Some other
          → StretchHolds rows (record { row = row; spans = spans }) After → HoldsAfter other
      two-longer one two bounds_are [] other is holds_before = absurd (none-some other is)
      two-longer one two bounds_are (span ∷ []) other is holds_before = absurd (none-some other is)
      two-longer one two bounds_are (span ∷ within ∷ next ∷ spans) other is holds_before = absurd (none-some other is)
      two-longer one two bounds_are (span ∷ within ∷ []) other is ([], ends, each) = absurd ends
      two-longer one two bounds_are (span ∷ within ∷ []) other is (own ∷ [], ends, each) = absurd ends.2
      two-longer one two bounds_are (span ∷ within ∷ []) other is (own ∷ second ∷ third ∷ around, ends, each) = absurd ends.2.2
      two-longer one two bounds_are (span ∷ within ∷ []) other is (own ∷ second ∷ [], ends, each) =
          by numbers refl (subst (λ (b : List Bound). AreNumbers After b numbers) bounds_are at)
        where
          -- a span that is just an index has its number
          is-within : (bound : Bound) (span : Span) (own : Numbers) (number : ℤ) → IsBound After bound number → IsBound After span.first own.first
              → IsBound After span.last own.last → is_at known bound span ≡ true → (own.first ≤ℤ number) × (number ≤ℤ own.last)
          is-within bound span own number is_number first_is last_is at_it =
              let both =
              and_parts (le known span.first bound && le known bound span.first) (le known span.last bound && le known bound span.last) at_it in
              let low = and_parts (le known span.first bound) (le known bound span.first) both.0 in
              let high = and_parts (le known span.last bound) (le known bound span.last) both.1 in (
                le-is rows After known told span.first bound own.first number first_is is_number low.0,
                le-is rows After known told bound span.last number own.last is_number last_is high.1,
              )

          widened : (indexes : List ℤ) (number : ℤ) → own.first ≤ℤ number → number ≤ℤ own.last
              → LieBetween (just number ∷ record { first = second.first; last = second.last } ∷ []) indexes → LieBetween (own ∷ second ∷ []) indexes
          widened [] number low high lie = absurd lie
          widened (index ∷ indexes) number low high lie =
              let from = lie.0 in
              let to = lie.1 in
              (omega (arith, ints, low, from), omega (arith, ints, to, high), lie.2)

          widened-behind : (indexes : List ℤ) (number : ℤ) → second.first ≤ℤ number → number ≤ℤ second.last
              → LieBetween (record { first = own.first; last = own.last } ∷ just number ∷ []) indexes → LieBetween (own ∷ second ∷ []) indexes
          widened-behind [] number low high lie = absurd lie
          widened-behind (index ∷ []) number low high lie = absurd lie.2
          widened-behind (index ∷ next ∷ indexes) number low high lie =
              let from = lie.2.0 in
              let to = lie.2.1 in
              (lie.0, lie.1, (omega (arith, ints, low, from), omega (arith, ints, to, high), lie.2.2))

          by : (all : List ℤ) → numbers ≡ all → AreNumbers After (one ∷ two ∷ []) all → HoldsAfter other
          by [] all_are none = absurd none
          by (number ∷ []) all_are none = absurd none.1
          by (number ∷ next ∷ third ∷ all) all_are none = absurd none.1.1
          by (number ∷ next ∷ []) all_are (is_number, is_next_number) =
              ⊎_elim
              (λ (first : (is_at known one span ≡ true) × (longer_of row (one ∷ []) [] (longer_span known two within) ≡ Some other)).
              let (new, new_is, same) = longer-some row (one ∷ []) [] (longer_span known two within) other first.1 in
              let (low, high) = is-within one span own number is_number ends.0 ends.1 first.0 in
              subst HoldsAfter same
              (longer-holds (one ∷ []) (number ∷ []) (is_number, tt) [] [] tt two next is_next_number.0 all_are within new second.first second.last ends.2.0
              ends.2.1 (λ steps index of_row first lie. each steps index of_row first (widened (indexes_of steps) number low high lie)) new_is))
              (λ (rest : cond (has known.rules Boxes && is_at known two within) (longer_of row [] (two ∷ []) (longer_span known one span)) None ≡ Some other).
              let parts = when-some (has known.rules Boxes && is_at known two within) (longer_of row [] (two ∷ []) (longer_span known one span)) other rest in
              let (new, new_is, same) = longer-some row [] (two ∷ []) (longer_span known one span) other parts.1 in
              let at_two = and_parts (has known.rules Boxes) (is_at known two within) parts.0 in
              let (low, high) = is-within two within second next is_next_number.0 ends.2.0 ends.2.1 at_two.1 in
              subst HoldsAfter same
              (longer-holds [] [] tt (two ∷ []) (next ∷ []) (is_next_number.0, tt) one number is_number all_are span new own.first own.last ends.0 ends.1
              (λ steps index of_row first lie. each steps index of_row first (widened-behind (indexes_of steps) next low high lie)) new_is))
              (one-of (is_at known one span) (longer_of row (one ∷ []) [] (longer_span known two within))
              (cond (has known.rules Boxes && is_at known two within) (longer_of row [] (two ∷ []) (longer_span known one span)) None) other is)

      spans-longer : (indexes : List Bound) → bounds ≡ indexes → (spans : List Span) (other : Held) → longer_by known row indexes spans ≡ Some other
          → StretchHolds rows (record { row = row; spans = spans }) After → HoldsAfter other
      spans-longer [] are spans other is holds_before = absurd (none-some other is)
      spans-longer (one ∷ []) are spans other is holds_before = one-longer one are spans other is holds_before
      spans-longer (one ∷ two ∷ []) are spans other is holds_before = two-longer one two are spans other is holds_before
      spans-longer (one ∷ two ∷ third ∷ more) are spans other is holds_before = absurd (none-some other is)

      grown-holds : (held other : Held) → longer known row bounds held ≡ Some other → HoldsAfter held → HoldsAfter other
      grown-holds (Ordered root by k) other is so = absurd (none-some other is)
      grown-holds (Stretched stretch) other is so =
          let parts = when-some (nat_eq stretch.row row) (longer_by known row bounds stretch.spans) other is in
          spans-longer bounds refl stretch.spans other parts.1
          (subst (λ r. StretchHolds rows (record { row = r; spans = stretch.spans }) After) (eqb-true stretch.row row parts.0) so)

      element-holds : HoldsWhere rows After (Unpassed rest) [] (record known {
        held = Rattle.checker_state.specs.State.with_more (or_alone row bounds (filter_map (longer known row bounds) known.held))
            (filter (λ held. is_none (longer known row bounds held)) known.held);
      })
      element-holds = record {
        count = holds.count;
        each = holds.each;
        growths = holds.growths;
        held = with_more-each HoldsAfter (or_alone row bounds (filter_map (longer known row bounds) known.held))
            (filter (λ held. is_none (longer known row bounds held)) known.held)
            (or_alone-each HoldsAfter row bounds (filter_map (longer known row bounds) known.held) alone-holds
            (λ other inside.
            let (old, listed, became) = in-filter_map (longer known row bounds) known.held other inside in
            grown-holds old other became (holds.held old listed)))
            (λ other inside. holds.held other (in-filter (λ held. is_none (longer known row bounds held)) known.held other inside).0);
      }

    -- components are reached whose first indexes are these numbers
    abbrev AreAllReached : List ℤ → Type 0
    AreAllReached numbers =
        (steps : List Step) → IsOfRow rows row steps → BeginWith numbers (indexes_of steps) → HasComponent rows After row steps

    element-left : (state : State) (number : ℤ) (form : Option Bound) → ((bound : Bound) → form ≡ Some bound → IsBound After bound number)
        → AreAllReached (number ∷ []) → StateWhere rest state → StateWhere rest (with_some_element row form state)
    element-left state number None at reached holds = holds
    element-left Dead number (Some bound) at reached holds = absurd holds
    element-left (Live known) number (Some bound) at reached holds =
        element-holds known holds (number ∷ []) (bound ∷ []) (at bound refl, tt) reached

    both-left : (state : State) (number next : ℤ) (form inner : Option Bound) → ((bound : Bound) → form ≡ Some bound → IsBound After bound number)
        → ((bound : Bound) → inner ≡ Some bound → IsBound After bound next) → AreAllReached (number ∷ next ∷ []) → StateWhere rest state
        → StateWhere rest (with_both row form inner state)
    both-left state number next None inner at also reached holds = holds
    both-left state number next (Some bound) None at also reached holds = holds
    both-left Dead number next (Some bound) (Some other) at also reached holds = absurd holds
    both-left (Live known) number next (Some bound) (Some other) at also reached holds =
        element-holds known holds (number ∷ next ∷ []) (bound ∷ other ∷ []) (at bound refl, (also other refl, tt)) reached

    -- the forms of the indexes of a reach are their numbers behind the stores too
    module _ (all : reach.is_all ≡ true) (apart : IsReachApart aliases reach) where
      form-stays : (index : Index) → Contains reach.indexes index → (number : ℤ) → IsIndex env before index number → (bound : Bound)
          → index.form ≡ Some bound → IsBound After bound number
      form-stays index listed number is_index bound form_is =
          bound-stays Before After aliases keep bound number (apart all index listed bound form_is) (is_index bound form_is)

      all-reached : (numbers : List ℤ) → AreIndexes env before reach.indexes numbers → AreAllReached numbers
      all-reached numbers are_indexes steps of_row begin = are_stored.reached one steps listed of_row (all, (numbers, are_indexes, begin))

    -- the number of an index whose components are all reached
    index-left : (index : Index) → reach.is_all ≡ true → reach.indexes ≡ index ∷ [] → IsReach env before reach → IsReachApart aliases reach → (state : State)
        → StateWhere rest state → StateWhere rest (with_some_element row index.form state)
    index-left index all single is_reach apart state holds =
        let (numbers, are_indexes) = is_reach all in
        by numbers (subst (λ (indexes : List Index). AreIndexes env before indexes numbers) single are_indexes)
      where
        by : (numbers : List ℤ) → AreIndexes env before (index ∷ []) numbers → StateWhere rest (with_some_element row index.form state)
        by [] none = absurd none
        by (number ∷ two ∷ numbers) none = absurd none.1
        by (number ∷ []) (is_index, end) =
            element-left state number index.form
            (form-stays all apart index (subst (λ (indexes : List Index). Contains indexes index) (sym single) (at-head index [])) number is_index)
            (all-reached all apart (number ∷ []) (subst (λ (indexes : List Index). AreIndexes env before indexes (number ∷ [])) (sym single) (is_index, tt)))
            holds

    -- those of two
    indexes-left : (index other : Index) → reach.is_all ≡ true → reach.indexes ≡ index ∷ other ∷ [] → IsReach env before reach → IsReachApart aliases reach
        → (state : State) → StateWhere rest state → StateWhere rest (with_both row index.form other.form state)
    indexes-left index other all double is_reach apart state holds =
        let (numbers, are_indexes) = is_reach all in
        by numbers (subst (λ (indexes : List Index). AreIndexes env before indexes numbers) double are_indexes)
      where
        by : (numbers : List ℤ) → AreIndexes env before (index ∷ other ∷ []) numbers → StateWhere rest (with_both row index.form other.form state)
        by [] none = absurd none
        by (number ∷ []) none = absurd none.1
        by (number ∷ next ∷ third ∷ numbers) none = absurd none.1.1
        by (number ∷ next ∷ []) (is_index, rest) =
            both-left state number next index.form other.form
            (form-stays all apart index (subst (λ (indexes : List Index). Contains indexes index) (sym double) (at-head index (other ∷ []))) number is_index)
            (form-stays all apart other
            (subst (λ (indexes : List Index). Contains indexes other) (sym double) (in-tail index other (other ∷ []) (at-head other []))) next rest.0)
            (all-reached all apart (number ∷ next ∷ [])
            (subst (λ (indexes : List Index). AreIndexes env before indexes (number ∷ next ∷ [])) (sym double) (is_index, (rest.0, tt)))) holds

    stored-left : (is_all : Bool) (indexes : List Index) → reach.is_all ≡ is_all → reach.indexes ≡ indexes → IsReach env before reach
        → IsReachApart aliases reach → (state : State) → StateWhere (one ∷ rest) state → StateWhere rest (stored_at is_all indexes row one.1 state)
    stored-left false indexes all_is indexes_are is_reach apart state holds = joined-left state holds
    stored-left true [] all_is indexes_are is_reach apart state holds =
        whole-left all_is indexes_are (with_range row one.1 state)
        (range-left one.1 state (λ steps v of_row there. are_stored.all one steps v all_is indexes_are listed of_row there) holds)
    stored-left true (index ∷ []) all_is indexes_are is_reach apart state holds =
        index-left index all_is indexes_are is_reach apart (with_joined row one.1 state) (joined-left state holds)
    stored-left true (index ∷ two ∷ []) all_is indexes_are is_reach apart state holds =
        indexes-left index two all_is indexes_are is_reach apart (with_joined row one.1 state) (joined-left state holds)
    stored-left true (index ∷ two ∷ third ∷ indexes) all_is indexes_are is_reach apart state holds = joined-left state holds

  -- ---- all stores

  all-left : IsReach env before reach → IsReachApart aliases reach → (rest : List (ℕ × Interval)) → Each (Contains stores) rest → (state : State)
      → StateWhere rest state → StateWhere [] (all_stored reach rest state)
  all-left is_reach apart [] listed state holds = holds
  all-left is_reach apart (one ∷ rest) listed state holds =
      let more : Each (Contains stores) rest = λ other inside. listed other (in-tail one other rest inside) in
      all-left is_reach apart rest more (stored reach one.0 one.1 state)
      (stored-left one rest (listed one (at-head one rest)) more reach.is_all reach.indexes refl refl is_reach apart state holds)

  passed-all : (state : State) → StateWhere [] state → StateHolds rows state After
  passed-all Dead holds = holds
  passed-all (Live known) holds =
      where-all rows After (Unpassed []) (λ row steps v pending. absurd (in-none pending.0 pending.1)) known holds

  stores-where : IsReach env before reach → IsReachApart aliases reach → (state : State) → IsLooseIn rows env aliases state after → StateHolds rows state Before
      → StateHolds rows (all_stored reach stores state) After
  stores-where is_reach apart Dead loose holds = absurd holds
  stores-where is_reach apart (Live known) loose holds =
      passed-all (all_stored reach stores (Live known))
      (all-left is_reach apart stores (λ one inside. inside) (Live known) (first-where known loose holds))

pub stores-hold : StoresHold
stores-hold rows table are env aliases state reach stores before after inner is_reach apart stored loose known = record {
  shows = known.shows;
  holds = stores-where rows table are env known.shows aliases reach stores before after inner stored is_reach apart state loose known.holds;
}

-- ---- an index without a form

-- an index of which no form is known is stored to as one among those that are reached
formless-same : (index : Index) → index.form ≡ None → (stores : List (ℕ × Interval)) (state : State)
    → all_stored (record { indexes = index ∷ []; is_all = true }) stores state ≡ all_stored (record { indexes = index ∷ []; is_all = false }) stores state
formless-same index none [] state = refl
formless-same index none (one ∷ more) state =
    let joined_one = with_joined one.0 one.1 state in
    ap (λ (form : Option Bound). all_stored (record { indexes = index ∷ []; is_all = true }) more (with_some_element one.0 form joined_one)) none
    ∙ formless-same index none more joined_one

-- then no more has to be said of the stores than of those to some that are reached
pub formless-hold : (rows : List Parts) (table : Table) → AreRows rows table
    → (env : Environment) (aliases : List ℕ) (state : State) (index : Index) → index.form ≡ None
    → (stores : List (ℕ × Interval)) (before after : Store) → ((one : ℕ × Interval) → Contains stores one → table.variables ≤ one.0)
    → AreStored rows env aliases (record { indexes = index ∷ []; is_all = false }) stores before after → IsLooseIn rows env aliases state after
    → Knows rows table.variables env state before
    → Knows rows table.variables env (all_stored (record { indexes = index ∷ []; is_all = true }) stores state) after
formless-hold rows table are env aliases state index none stores before after inner stored loose known =
    subst (λ s. Knows rows table.variables env s after) (sym (formless-same index none stores state))
    (stores-hold rows table are env aliases state (record { indexes = index ∷ []; is_all = false }) stores before after inner (λ all. absurd (cc))
    (λ all. absurd (cc)) stored loose known)
