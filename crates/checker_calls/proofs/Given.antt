-- What is given where a block is called holds where it begins: each formal parameter has what its actual one has.
use Rattle.std.proofs.Common.{arith, ◌≡◌, ⊎_elim, ◌∙◌, sym, ap, refl, subst, ℕ, ℤ, ◌+ℤ◌, ◌≤ℤ◌, pos, Bool, true, false, ◌&&◌, ◌||◌, not}
use Rattle.std.proofs.Common.{List, [], ◌∷◌, ◌++◌, map, length, int_le, Option, Some, None}
use Rattle.std.specs.List.{All, Contains, flat_map, list_all, list_any}
use Rattle.std.specs.Prelude.{is_some, option_map, slice_get}
use Rattle.std.proofs.lemmas.Bool.{and_parts, false≢true, or_cases}
use Rattle.std.proofs.lemmas.Int.{ints}
use Rattle.std.proofs.lemmas.List.Elements.{All-append, All-cons, All-contains, All-contains_itself, All-map, All-nil, All-weaker, Contains-append_left}
use Rattle.std.proofs.lemmas.List.Elements.{Contains-append_right}
use Rattle.std.proofs.lemmas.List.Folds.{list_all-append}
use Rattle.std.proofs.lemmas.List.Sums.{AllPass-from_list_all}
use Rattle.std.proofs.lemmas.Option.{cond_some, none-some, same_Some, slice_get_within}
use Rattle.types.specs.Types.{is_ordinal, is_scalar, is_structured}
use Rattle.types.specs.declared.form.Step.{Step}
use Rattle.types.proofs.Scalars.{scalar_component}
use Rattle.typed_tree.specs.Accesses.{Origin, AtVariable, root_of}
use Rattle.typed_tree.specs.WellFormed.{is_value_kind, is_variable_kind}
use Rattle.typed_tree.specs.declared.tree.Block.{Block}
use Rattle.typed_tree.specs.declared.tree.Selector.{Selector}
use Rattle.typed_tree.specs.declared.tree.Tree.{Tree}
use Rattle.typed_tree.specs.declared.tree.Variable.{Variable as DeclaredVariable}
use Rattle.domain.specs.Facts as fact
use Rattle.domain.specs.Facts.{Fact, Path}
use Rattle.domain.specs.Interval.{HasMember, Interval, is_included, is_vacant}
use Rattle.meaning.specs.declared.value.Value.{Value}
use Rattle.meaning.specs.declared.value.Value.TheVariants.{Number}
use Rattle.meaning.specs.Meaning as meaning
use Rattle.meaning.specs.Meaning.{Argument, environment_of, place_passed}
use Rattle.meaning.specs.Store.{Environment, Place, Store}
use Rattle.checker_loops.proofs.Lists.{contains-more}
use Rattle.checker_loops.proofs.VariableRows.{first-behind_fields, no-way, variable-row}
use Rattle.checker_calls.proofs.Headings.{one-there}
use Rattle.checker_calls.proofs.Numbers.{hold-numbers, ordinal-number}
use Rattle.checker_calls.proofs.Claimed.{AllHold}
use Rattle.checker_calls.proofs.Bearing.{named-root}
use Rattle.checker_calls.proofs.Started.{value-home}
use Rattle.checker_calls.proofs.Assigned.{Received}
use Rattle.checker_rows.proofs.Selected.{Matches}
use Rattle.checker_calls.proofs.FormalRows.{same-value}
use Rattle.checker_calls.proofs.Reached.{alive, indexes-behind_fields, reached-has}
use Rattle.checker_state.proofs.Looped.{given-all, range-lies}
use Rattle.checker_state.proofs.Ranged.{included-in}
use Rattle.checker_state.specs.Stores.{Index, Reach, gives_reached}
use Rattle.checker_calls.proofs.Borne.{IsBorne, IsBorneBy, IsReached, caller-kept, component-borne, lies-at, outer-value, value-received}
use Rattle.checker_calls.proofs.Entered.{behind_assignments}
use Rattle.checker_calls.proofs.Origins.{rows-same}
use Rattle.checker_calls.proofs.Passed.{AreArguments, Fits, IsArgument}
use Rattle.checker_calls.specs.Actuals.{Actual, Bearer, Binding, OfRows, OfValue, OfVariable, Passed, Reached, actual_of, bearers_named, bearers_of, bound_to}
use Rattle.checker_calls.specs.Environments.{Begun, LiesIn, Typed}
use Rattle.checker_calls.proofs.Callee.{IsCalled, activation_of}
use Rattle.checker_rows.proofs.Accessed.{IsOf}
use Rattle.checker_state.proofs.Given.{AreWanted, IsWanted, given-holds, had, value-is, whole-told}
use Rattle.checker_state.proofs.Bounded.{bound-here}
use Rattle.checker_loops.proofs.Tabled.{are-rows}
use Rattle.checker_state.specs.Loops.{gives_all}
use Rattle.checker_loops.specs.Loops.{all_said, asked, asked_of, defined_of, gives_claims, rows_named, said, said_bound, said_span}
use Rattle.checker_state.specs.State.{Defined, state_gives, table_of}
use Rattle.checker_state.proofs.Bounds.{le-is, raised-is, told-of}
use Rattle.checker_state.specs.Bounds.{Bound, constant, plus, raised_bound}
use Rattle.checker_rows.specs.Rows.{all_parts, first_index, index_at, indexes_of, is_ordinal_variable, is_variable_row, rows_accessed, rows_of}
use Rattle.checker_state.specs.Knows.{IsOfForm, Knows}
use Rattle.checker_state.specs.State.{Claim, Dead, Live, Range, State, at_most, at_most_by, has_value, is_below, is_dead, range_of}
use Rattle.checker_calls.specs.Entry.{Between, Limit, are_borne_between, are_given, are_ordered, are_reached, between_and, both_limits, forms_at_most}
use Rattle.checker_calls.specs.Entry.{have_values, holds_between, is_at_most, is_borne_between, is_defined_borne, is_empty_between, is_given, limit_moved}
use Rattle.checker_calls.specs.Entry.{limit_of, limit_of_actual, limit_of_bound, limit_of_plus, limit_of_variable, limits_of, limits_of_span, range_borne}
use Rattle.checker_calls.specs.Entry.{wanted_between}
use Rattle.checker_state.specs.Holds.{AreBounds, AreDefined, HasComponent, HasNumber, HasValue, HoldNumbers, Holds, IsBound, IsIn, LieBetween}
use Rattle.checker_state.specs.Holds.{Moment, Numbers, StateHolds, moment, part_of, value_at}
use Rattle.checker_calls.proofs.Parameters.{IsOuter, IsOutward, IsParameter, outward-cases, parameter-block}

-- ---- the variables that a fact names

abbrev pub bound_roots : fact.Bound → List ℕ
bound_roots (fact.Number n) = []
bound_roots (fact.Plus root n) = root ∷ []

abbrev pub span_roots : fact.Span → List ℕ
span_roots span = bound_roots span.first ++ bound_roots span.last

abbrev pub fact_roots : Fact → List ℕ
fact_roots (fact.Range path range) = path.root ∷ []
fact_roots (fact.Defined path spans) = path.root ∷ flat_map span_roots spans
fact_roots (fact.Order root other number) = root ∷ other ∷ []
fact_roots (fact.Grows root growth) = root ∷ []

-- the caller of a block may know each of them
abbrev pub AreOutward : Tree → ℕ → Fact → Type 0
AreOutward tree number one = (root : ℕ) → Contains (fact_roots one) root → IsOutward tree number root

-- a state gives what holds where it does
module _ (tree : Tree) (env : Environment) (state : State) (store : Store) (numbers : HoldNumbers (is_ordinal_variable tree) (moment env store))
    (known : Knows (all_parts tree) (length tree.variables.items) env state store) where
  abbrev HoldsThere : Claim → Type 0
  HoldsThere claim = Holds (all_parts tree) claim (moment env store)

  whole-rows : (rows : List ℕ) → gives_all (table_of tree) state (map (asked_of tree []) rows) ≡ true → All HoldsThere (map (defined_of tree []) rows)
  whole-rows [] given = All-nil HoldsThere
  whole-rows (row ∷ rows) given =
      let rest = gives_all (table_of tree) state (map (asked_of tree []) rows) in
      let parts = and_parts (state_gives (table_of tree) state (Defined row)) rest given in
      All-cons HoldsThere (defined_of tree [] row) (map (defined_of tree []) rows)
      (whole-told (all_parts tree) (moment env store) row (index_at (rows_of tree) row)
      (given-holds (all_parts tree) (table_of tree) (are-rows tree) env state store (Defined row) numbers known parts.0)) (whole-rows rows parts.1)

  given-fact : (one : Fact) → gives_all (table_of tree) state (asked tree one) ≡ true → All HoldsThere (said tree one)
  given-fact (fact.Range path range) given =
      given-all (all_parts tree) (table_of tree) (are-rows tree) env state store (said tree (fact.Range path range)) numbers known given
  given-fact (fact.Defined path []) given = whole-rows (rows_named tree path) given
  given-fact (fact.Defined path (span ∷ spans)) given =
      given-all (all_parts tree) (table_of tree) (are-rows tree) env state store (said tree (fact.Defined path (span ∷ spans))) numbers known given
  given-fact (fact.Order root other k) given =
      given-all (all_parts tree) (table_of tree) (are-rows tree) env state store (said tree (fact.Order root other k)) numbers known given
  given-fact (fact.Grows root growth) given = All-nil HoldsThere

  pub given-claims : (facts : List Fact) → gives_claims tree state facts ≡ true → AllHold tree facts env store
  given-claims [] given = All-nil HoldsThere
  given-claims (one ∷ facts) given =
      let asked_one = gives_all (table_of tree) state (asked tree one) in
      let parts = and_parts asked_one (gives_claims tree state facts)
      (sym (list_all-append (state_gives (table_of tree) state) (asked tree one) (flat_map (asked tree) facts)) ∙ given) in
      All-append HoldsThere (said tree one) (all_said tree facts) (given-fact one parts.0) (given-claims facts parts.1)

-- ---- limits

-- a limit is a number: that of its form, and one of its range
pub record IsLimit (m : Moment) (limit : Limit) (n : ℤ) : Type 0 where
  pub of_form : (b : Bound) → limit.form ≡ Some b → IsBound m b n
  pub in_range : HasMember limit.range n

-- what numbers limits are
abbrev pub IsBetween : Moment → Between → Numbers → Type 0
IsBetween m limits own = IsLimit m limits.first own.first × IsLimit m limits.last own.last

abbrev pub AreBetween : Moment → List Between → List Numbers → Type 0
AreBetween m [] [] = Unit {0}
AreBetween m [] (one ∷ own) = ⊥
AreBetween m (one ∷ limits) [] = ⊥
AreBetween m (one ∷ limits) (first ∷ own) = IsBetween m one first × AreBetween m limits own

-- limits that are all there
limits-and : (one : Option Between) (more : Option (List Between)) (found : List Between) → between_and one more ≡ Some found
    → (first : Between) × (rest : List Between) × (one ≡ Some first) × (more ≡ Some rest) × ((first ∷ rest) ≡ found)
limits-and None more found is = absurd (none-some found is)
limits-and (Some one) None found is = absurd (none-some found is)
limits-and (Some one) (Some more) found is = (one, more, refl, refl, same_Some (one ∷ more) found is)

limits-ends : (first last : Option Limit) (found : Between) → both_limits first last ≡ Some found
    → (a b : Limit) × (first ≡ Some a) × (last ≡ Some b) × ((let one : Between = record { first = a; last = b } in one) ≡ found)
limits-ends None last found is = absurd (none-some found is)
limits-ends (Some a) None found is = absurd (none-some found is)
limits-ends (Some a) (Some b) found is = (a, b, refl, refl, same_Some (record { first = a; last = b }) found is)

below-holds : (a b : Interval) (m n : ℤ) → HasMember a m → HasMember b n → is_below a b ≡ true → m ≤ℤ n
below-holds a b m n left right is =
    let parts = and_parts (not (is_vacant a || is_vacant b)) (int_le a.last b.first) is in
    let less : a.last ≤ℤ b.first = grind (arith, ints, parts.1) in
    let high = left.1 in
    let low = right.0 in
    omega (arith, ints)

module _ (tree : Tree) (env : Environment) (store : Store) (state : State) (numbers : HoldNumbers (is_ordinal_variable tree) (moment env store))
    (knows : Knows (all_parts tree) (length tree.variables.items) env state store) where
  abbrev here : Moment
  here = moment env store

  at_most-holds : (state : State) → StateHolds (all_parts tree) state here → (a b : Bound) (m n : ℤ) → IsBound here a m → IsBound here b n
      → at_most state a b ≡ true → m ≤ℤ n
  at_most-holds Dead holds a b m n left right is = absurd holds
  at_most-holds (Live known) holds a b m n left right is =
      le-is (all_parts tree) here known (told-of (all_parts tree) (table_of tree) (are-rows tree) env knows.shows store known holds) a b m n left right is

  forms-hold : (a b : Option Bound) (m n : ℤ) → ((one : Bound) → a ≡ Some one → IsBound here one m) → ((one : Bound) → b ≡ Some one → IsBound here one n)
      → forms_at_most state a b ≡ true → m ≤ℤ n
  forms-hold None b m n left right is = absurd (false≢true is)
  forms-hold (Some a) None m n left right is = absurd (false≢true is)
  forms-hold (Some a) (Some b) m n left right is = at_most-holds state knows.holds a b m n (left a refl) (right b refl) is

  -- a limit that is known to be at most another is
  pub limits-hold : (a b : Limit) (m n : ℤ) → IsLimit here a m → IsLimit here b n → is_at_most state a b ≡ true → m ≤ℤ n
  limits-hold a b m n left right is =
      ⊎_elim (λ formed. forms-hold a.form b.form m n left.of_form right.of_form formed)
      (λ ranged. below-holds a.range b.range m n left.in_range right.in_range ranged)
      (or_cases (forms_at_most state a.form b.form) (is_below a.range b.range) is)

  -- the limit of a bound is the bound's number
  pub limit-is : (bound : Bound) (n : ℤ) → IsBound here bound n → IsLimit here (limit_of tree state bound) n
  limit-is bound n is = record {
    of_form = λ b same. subst (λ (x : Bound). IsBound here x n) (same_Some bound b same) is;
    in_range = bound-here (all_parts tree) (table_of tree) (are-rows tree) env knows.shows store state bound n knows.holds is;
  }

  value-here : (state : State) → StateHolds (all_parts tree) state here → (bound : Bound) → has_value (table_of tree) state bound ≡ true
      → (n : ℤ) × IsBound here bound n
  value-here Dead holds bound is = absurd holds
  value-here (Live known) holds bound is =
      value-is (all_parts tree) (table_of tree) (are-rows tree) env knows.shows store numbers known holds bound is

  moved-form : (k n : ℤ) (form : Option Bound) → ((b : Bound) → form ≡ Some b → IsBound here b n) → (b : Bound)
      → option_map (raised_bound k) form ≡ Some b → IsBound here b (n +ℤ k)
  moved-form k n None of_form b is = absurd (none-some b is)
  moved-form k n (Some own) of_form b is =
      subst (λ (c : Bound). IsBound here c (n +ℤ k)) (same_Some (raised_bound k own) b is) (raised-is here k own n (of_form own refl))

  pub moved-limit : (k n : ℤ) (limit : Limit) → IsLimit here limit n → IsLimit here (limit_moved k limit) (n +ℤ k)
  moved-limit k n limit is = record {
    of_form = moved-form k n limit.form is.of_form;
    in_range = (let low = is.in_range.0 in
        let high = is.in_range.1 in
        (omega (arith, ints), omega (arith, ints)));
  }

  -- what is asked of the span between limits is so of their numbers
  between-wanted : (limits : Between) (own : Numbers) → IsBetween here limits own → IsWanted here (wanted_between tree state limits) own
  between-wanted limits own are = record {
    from = λ bound n at is. limits-hold (limit_of tree state bound) limits.first n own.first (limit-is bound n at) are.0 is;
    to = λ bound n at is. limits-hold limits.last (limit_of tree state bound) own.last n are.1 (limit-is bound n at) is;
  }

  all-wanted : (limits : List Between) (own : List Numbers) → AreBetween here limits own → AreWanted here (map (wanted_between tree state) limits) own
  all-wanted [] [] are = tt
  all-wanted [] (one ∷ own) are = are
  all-wanted (one ∷ limits) [] are = are
  all-wanted (one ∷ limits) (first ∷ own) are = (between-wanted one first are.0, all-wanted limits own are.1)

  -- the components of a row between limits, where what is held has them
  pub held-between : (row : ℕ) (limits : List Between) (own : List Numbers) → AreBetween here limits own → holds_between tree state row limits ≡ true
      → AreDefined (all_parts tree) row own here
  held-between row limits own are is = by state refl knows.holds is
    where
      by : (other : State) → state ≡ other → StateHolds (all_parts tree) other here → holds_between tree other row limits ≡ true
          → AreDefined (all_parts tree) row own here
      by Dead same holds is = absurd holds
      by (Live known) same holds is =
          had (all_parts tree) here known (told-of (all_parts tree) (table_of tree) (are-rows tree) env knows.shows store known holds)
          ((table_of tree).indexes row) row ((are-rows tree).indexes row) (map (wanted_between tree (Live known)) limits) own
          (subst (λ (s : State). AreWanted here (map (wanted_between tree s) limits) own) same (all-wanted limits own are)) is

  -- no index lies between limits, of which some have none between
  pub none-between : (limits : List Between) (own : List Numbers) (indexes : List ℤ) → list_any (is_empty_between state) limits ≡ true
      → AreBetween here limits own → LieBetween own indexes → ⊥
  none-between [] own indexes is are lie = absurd (false≢true is)
  none-between (one ∷ limits) [] indexes is are lie = are
  none-between (one ∷ limits) (first ∷ own) [] is are lie = lie
  none-between (one ∷ limits) (first ∷ own) (index ∷ indexes) is are lie =
      let low = lie.0 in
      let high = lie.1 in
      ⊎_elim
      (λ empty.
      let below = limits-hold (limit_moved (pos 1) one.last) one.first (first.last +ℤ pos 1) first.first
      (moved-limit (pos 1) first.last one.last are.0.1) are.0.0 empty in
      omega (arith, ints))
      (λ later. none-between limits own indexes later are.1 lie.2) (or_cases (is_empty_between state one) (list_any (is_empty_between state) limits) is)

-- ---- what a call gives

module _ (tree : Tree) (pairs : List (ℕ × ℕ)) (number : ℕ) (block : Block) (arguments : List Argument) (caller : Environment) (activations from : ℕ)
    (call : IsCalled tree pairs number block arguments caller activations from) (store : Store) (typed : Typed tree store) (begun : Begun activations store)
    (actuals : List Actual)
    (are : AreArguments tree caller store block.heading.parameters.items actuals arguments) (state : State)
    (knows : Knows (all_parts tree) (length tree.variables.items) caller state store) where
  abbrev callee : Environment
  callee = environment_of tree (activation_of number block arguments caller activations)

  abbrev bindings : List Binding
  bindings = bound_to block.heading.parameters.items actuals

  abbrev behind : Store
  behind = behind_assignments tree pairs number block arguments caller activations from call store

  abbrev inner : Moment
  inner = moment callee behind

  abbrev outer : Moment
  outer = moment caller store

  numbers : HoldNumbers (is_ordinal_variable tree) (moment caller store)
  numbers = hold-numbers tree pairs from activations caller store call.proper typed

  abbrev IsBorneHere : Bearer → ℕ → List Step → Type 0
  IsBorneHere bearer root steps = IsBorne tree pairs number block arguments caller activations from call store begun actuals are bearer root steps

  abbrev IsReachedHere : ℕ → Reach → ℕ → List Step → Type 0
  IsReachedHere row reach root steps = IsReached tree pairs number block arguments caller activations from call store begun actuals are row reach root
      steps

  abbrev BorneBy : List Bearer → ℕ → List Step → Type 0
  BorneBy bearers root steps =
      IsBorneBy tree pairs number block arguments caller activations from call store begun actuals are bearers root steps

  -- ---- what is given of a bearer

  -- where its values lie
  range-given : (bearer : Bearer) (root : ℕ) (steps : List Step) (range : Interval) (v : Value) → IsBorneHere bearer root steps
      → is_included (range_borne state bearer) range ≡ true → value_at inner root steps ≡ Some v → IsIn range v
  range-given (Passed own) root steps range v borne included is =
      let same : borne.0 ≡ v = same_Some borne.0 v (sym borne.1 ∙ is) in
      included-in own range v included (subst (IsIn own) same borne.2)
  range-given (Reached row reach) root steps range v borne included is =
      included-in (range_of state row) range v included
      (range-lies (all_parts tree) outer state row knows.holds (borne.way ++ steps) v borne.of_row (sym borne.same ∙ is))

  component-has : (row : ℕ) (reach : Reach) (root : ℕ) (steps : List Step) → IsReachedHere row reach root steps
      → gives_reached (table_of tree) state reach row ≡ true → HasValue inner root steps
  component-has row reach root steps borne is =
      let has = reached-has (all_parts tree) (table_of tree) (are-rows tree) caller state store numbers knows borne.selectors row borne.way steps reach
      borne.reached borne.of_row is in
      (has.0, borne.same ∙ has.1)

  -- that it is defined
  defined-given : (bearer : Bearer) (root : ℕ) (steps : List Step) → IsBorneHere bearer root steps → is_defined_borne tree state bearer ≡ true
      → HasValue inner root steps
  defined-given (Passed own) root steps borne is = (borne.0, borne.1)
  defined-given (Reached row reach) root steps borne is = component-has row reach root steps borne is

  -- that it is, between limits
  module _ (limits : List Between) (own : List Numbers) (between_are : AreBetween outer limits own) (steps : List Step) (index : ℤ)
      (at : first_index steps ≡ Some index) (lie : LieBetween own (indexes_of steps)) where
    reached-between : (row : ℕ) (reach : Reach) (root : ℕ) → IsReachedHere row reach root steps
        → are_reached tree state limits row reach reach.indexes ≡ true → HasValue inner root steps
    reached-between row reach root borne is = by reach.indexes refl is
      where
        by : (indexes : List Index) → reach.indexes ≡ indexes → are_reached tree state limits row reach indexes ≡ true → HasValue inner root steps
        by (one ∷ indexes) own_is is = component-has row reach root steps borne is
        by [] none is =
            ⊎_elim (λ whole. component-has row reach root steps borne whole)
            (λ held.
            let few = borne.reached.none none in
            let has = held-between tree caller store state numbers knows row limits own between_are held (borne.way ++ steps) index borne.of_row
            (first-behind_fields borne.selectors borne.way steps few borne.matches ∙ at)
            (subst (LieBetween own) (sym (indexes-behind_fields borne.selectors borne.way steps few borne.matches)) lie) in
            (has.0, borne.same ∙ has.1))
            (or_cases (gives_reached (table_of tree) state reach row) (holds_between tree state row limits) is)

    between-given : (bearer : Bearer) (root : ℕ) → IsBorneHere bearer root steps → is_borne_between tree state limits bearer ≡ true → HasValue inner root steps
    between-given (Passed range) root borne is = (borne.0, borne.1)
    between-given (Reached row reach) root borne is =
        reached-between row reach root borne (and_parts (not (is_variable_row tree row)) (are_reached tree state limits row reach reach.indexes) is).1

  -- ---- bounds of the callee

  abbrev HasLimit : ℕ → Limit → Type 0
  HasLimit root limit = (m : ℤ) × HasNumber inner root m × IsLimit outer limit m

  -- a bound of the callee is a number there, of which its limit tells
  pub record IsLimitOf (bound : Bound) (limit : Limit) : Type 0 where
    pub n : ℤ
    pub is_bound : IsBound inner bound n
    pub is_limit : IsLimit outer limit n

  -- a variable of the callee that is an entire one of the caller's
  variable-limit : (root other : ℕ) (limit : Limit) → value_at inner root [] ≡ value_at outer other []
      → limit_of tree state (plus other (pos 0)) ≡ limit → limit.has_value ≡ true → HasLimit root limit
  variable-limit root other limit same is has =
      let own = value-here tree caller store state numbers knows state knows.holds (plus other (pos 0)) (ap (λ (l : Limit). l.has_value) is ∙ has) in
      let m = own.1.0 in
      let e : own.0 ≡ m = (let s = own.1.2 in omega (arith, ints, s)) in (
        m,
        same ∙ own.1.1,
        subst (λ (l : Limit). IsLimit outer l m) is
            (subst (λ (n : ℤ). IsLimit outer (limit_of tree state (plus other (pos 0))) n) e
            (limit-is tree caller store state numbers knows (plus other (pos 0)) own.0 own.1)),
      )

  abbrev IsOuterHere : ℕ → DeclaredVariable → Type 0
  IsOuterHere root variable = IsOuter tree pairs number block arguments caller activations from call store actuals are root variable

  abbrev ParameterHere : ℕ → DeclaredVariable → Type 0
  ParameterHere root variable = IsParameter tree caller store activations block.heading.parameters.items actuals arguments root variable

  -- a variable that is passed tells of its limit only where it is an entire one
  alone-row : (rows : List ℕ) (reach : Reach) (limit : Limit) → limit_of_variable tree state (map (λ row. Reached row reach) rows) ≡ Some limit
      → (row : ℕ) × Contains rows row × (is_variable_row tree row ≡ true) × (limit_of tree state (plus row (pos 0)) ≡ limit)
  alone-row [] reach limit is = absurd (none-some limit is)
  alone-row (row ∷ other ∷ rows) reach limit is = absurd (none-some limit is)
  alone-row (row ∷ []) reach limit is =
      let found = cond_some (is_variable_row tree row) (limit_of tree state (plus row (pos 0))) limit is in
      (row, (0, omega arith, refl), found.0, found.1)

  variable-passed : (root : ℕ) (outward : IsOutward tree number root) (p : ParameterHere root outward.0) (origin : Origin) (selectors : List Selector)
      (reach : Reach) (place : Place) (limit : Limit) → p.argument ≡ meaning.OfPlace (Some place)
      → IsArgument tree caller store outward.0 (OfVariable origin selectors reach) (meaning.OfPlace (Some place)) → is_variable_kind outward.0.kind ≡ true
      → limit_of_variable tree state (bearers_of tree (OfVariable origin selectors reach)) ≡ Some limit → limit.has_value ≡ true → HasLimit root limit
  variable-passed root (variable, is, round, own) p origin selectors reach place limit argument_is known kind_is limit_is has =
      let other = root_of origin in
      let (row, inside, whole, row_is) = alone-row (rows_accessed tree origin selectors) reach limit limit_is in
      let one = one-there (λ (v : DeclaredVariable). not (is_structured tree.types v.type_id)) (slice_get tree.variables.items row) whole in
      let lies = lies-at tree pairs number block arguments caller activations from call store begun actuals are root variable is kind_is
      (parameter-block tree pairs number block arguments caller activations from call store actuals are root variable is p) place
      (p.place_is ∙ ap place_passed argument_is) origin selectors reach known in
      let entire = variable-row tree (AtVariable other) lies.all row
      (subst (λ (rows : List ℕ). Contains rows row) (sym (rows-same tree origin selectors lies.all lies.steps_are)) inside)
      (slice_get_within tree.variables.items row one.0 one.1) in
      let whole_way = no-way lies.way (subst (λ (list : List Selector). Matches list lies.way) entire.1 lies.at.matches) in
      variable-limit root row limit
      (same-value tree caller callee root other lies.all lies.way variable.type_id lies.at behind []
      ∙ caller-kept tree pairs number block arguments caller activations from call store begun actuals are other (lies.way ++ [])
      ∙ ap (value_at outer other) whole_way ∙ ap (λ (r : ℕ). value_at outer r []) entire.0)
      row_is has

  -- a value that is passed
  value-passed : (root : ℕ) (outward : IsOutward tree number root) (p : ParameterHere root outward.0) (range : Interval) (form : Option Bound) (v : Value)
      → p.argument ≡ meaning.OfValue v → is_value_kind outward.0.kind ≡ true → LiesIn tree.types outward.0.type_id v → IsIn range v
      → IsOfForm outer form v → (test : Bool) → is_ordinal_variable tree root ≡ true
      → HasLimit root (record { form = form; range = range; has_value = test })
  value-passed root (variable, is, round, own) p range form v argument_is value lies inside of_form test ordinal =
      let one_value : is_scalar tree.types variable.type_id ≡ true = ap is_some lies.1 in
      let got = subst (λ (a : Argument). Received tree activations activations callee root variable a behind) argument_is
      (value-received tree pairs number block arguments caller activations from call store begun actuals are root variable is p value) in
      let has = got.has [] (subst (λ (all : List (List Step)). Contains all []) (sym (scalar_component tree.types variable.type_id one_value))
      (0, omega arith, refl)) in
      let same = (got.gets [] has.0 has.1).1 in
      let block_is = parameter-block tree pairs number block arguments caller activations from call store actuals are root variable is p in
      let home = value-home tree pairs number block arguments caller activations from call root variable is block_is value in
      let found = one-there (λ (x : DeclaredVariable). is_ordinal tree.types x.type_id) (slice_get tree.variables.items root) ordinal in
      let m = ordinal-number tree.types variable.type_id v
      (subst (λ (x : DeclaredVariable). is_ordinal tree.types x.type_id ≡ true) (same_Some found.0 variable (sym found.1 ∙ is)) found.2) lies.3 in
      let at : value_at inner root [] ≡ Some (Number m.0) =
      ap (λ (found : Option Place). part_of behind found []) home ∙ has.1 ∙ ap Some same ∙ ap Some m.1 in (
        m.0,
        at,
        record {
          of_form = λ b form_is.
              let formed = subst (λ (f : Option Bound). IsOfForm outer f v) form_is of_form in
              subst (λ (n : ℤ). IsBound outer b n) (number-same formed.0 m.0 (sym formed.1 ∙ m.1)) formed.2;
          in_range = subst (IsIn range) m.1 inside;
        },
      )
    where
      number-same : (a b : ℤ) → Number a ≡ Number b → a ≡ b
      number-same a b is = cc

  passed-limit : (root : ℕ) (outward : IsOutward tree number root) (p : ParameterHere root outward.0) (limit : Limit) (actual : Actual) (argument : Argument)
      → p.argument ≡ argument → IsArgument tree caller store outward.0 actual argument → Fits tree activations argument outward.0
      → limit_of_actual tree state root (Some actual) ≡ Some limit → limit.has_value ≡ true → HasLimit root limit
  passed-limit root outward p limit (OfValue range form) (meaning.OfValue v) argument_is is fits limit_is has =
      let ordinal = is_ordinal_variable tree root in
      let same = same_Some (record { form = form; range = range; has_value = ordinal }) limit limit_is in
      subst (HasLimit root) same
      (value-passed root outward p range form v argument_is fits.0 fits.1 is.0 is.1 ordinal (ap (λ (l : Limit). l.has_value) same ∙ has))
  passed-limit root outward p limit (OfValue range form) (meaning.OfRow values) argument_is is fits limit_is has = absurd is
  passed-limit root outward p limit (OfValue range form) (meaning.OfPlace place) argument_is is fits limit_is has = absurd is
  passed-limit root outward p limit (OfRows ranges) argument argument_is is fits limit_is has = absurd (none-some limit limit_is)
  passed-limit root outward p limit (OfVariable origin selectors reach) (meaning.OfValue v) argument_is is fits limit_is has = absurd is
  passed-limit root outward p limit (OfVariable origin selectors reach) (meaning.OfRow values) argument_is is fits limit_is has = absurd is
  passed-limit root outward p limit (OfVariable origin selectors reach) (meaning.OfPlace None) argument_is is fits limit_is has = absurd fits
  passed-limit root outward p limit (OfVariable origin selectors reach) (meaning.OfPlace (Some place)) argument_is is fits limit_is has =
      variable-passed root outward p origin selectors reach place limit argument_is is fits.0 limit_is has

  root-limit : (root : ℕ) (limit : Limit) → IsOutward tree number root → limit_of_actual tree state root (actual_of bindings root) ≡ Some limit
      → limit.has_value ≡ true → HasLimit root limit
  root-limit root limit outward limit_is has =
      ⊎_elim
      (λ (here : IsOuterHere root outward.0).
      variable-limit root root limit
      (outer-value tree pairs number block arguments caller activations from call store begun actuals are root outward.0 here [])
      (same_Some (limit_of tree state (plus root (pos 0))) limit
      (sym (ap (limit_of_actual tree state root) here.no_actual) ∙ limit_is)) has)
      (λ (p : ParameterHere root outward.0).
      passed-limit root outward p limit p.actual p.argument refl p.known p.fits
      (sym (ap (limit_of_actual tree state root) p.actual_is) ∙ limit_is) has)
      (outward-cases tree pairs number block arguments caller activations from call store actuals are root outward)

  -- a variable of the callee plus a number
  plus-limit : (root : ℕ) (k : ℤ) (limit : Limit) → IsOutward tree number root → limit_of_plus tree state bindings root k ≡ Some limit
      → limit.has_value ≡ true → IsLimitOf (plus root k) limit
  plus-limit root k limit outward is has = by (limit_of_actual tree state root (actual_of bindings root)) refl is
    where
      by : (found : Option Limit) → limit_of_actual tree state root (actual_of bindings root) ≡ found
          → option_map (limit_moved k) found ≡ Some limit → IsLimitOf (plus root k) limit
      by None found is = absurd (none-some limit is)
      by (Some own) found is =
          let same = same_Some (limit_moved k own) limit is in
          let at = root-limit root own outward found (ap (λ (l : Limit). l.has_value) same ∙ has) in
          record {
            n = at.0 +ℤ k;
            is_bound = (at.0, at.1, refl);
            is_limit = subst (λ (l : Limit). IsLimit outer l (at.0 +ℤ k)) same (moved-limit tree caller store state numbers knows k at.0 own at.2);
          }

  bound-limit : (bound : fact.Bound) (limit : Limit) → ((root : ℕ) → Contains (bound_roots bound) root → IsOutward tree number root)
      → limit_of_bound tree state bindings bound ≡ Some limit → limit.has_value ≡ true → IsLimitOf (said_bound bound) limit
  bound-limit (fact.Number n) limit outward is has = record {
    n = n;
    is_bound = refl;
    is_limit = subst (λ (l : Limit). IsLimit outer l n) (same_Some (limit_of tree state (constant n)) limit is)
        (limit-is tree caller store state numbers knows (constant n) n refl);
  }
  bound-limit (fact.Plus root k) limit outward is has = plus-limit root k limit (outward root (0, omega arith, refl)) is has

  -- ---- facts

  all-bearers : (test : Bearer → Bool) (bearers : List Bearer) (bearer : Bearer) → list_all test bearers ≡ true → Contains bearers bearer → test bearer ≡ true
  all-bearers test bearers bearer all inside =
      All-contains (λ (b : Bearer). test b ≡ true) bearers bearer (AllPass-from_list_all test bearers all) inside

  borne-at : (path : Path) → IsOutward tree number path.root → (row : ℕ) (steps : List Step) → Contains (rows_named tree path) row → IsOf tree row steps
      → BorneBy (bearers_named tree bindings path) path.root steps
  borne-at path outward row steps inside of_row =
      component-borne tree pairs number block arguments caller activations from call store begun actuals are path outward row steps inside of_row

  -- where two limits are there
  both-limits : (P : Limit → Limit → Bool) (first last : Option Limit) (test : Option Limit → Option Limit → Bool)
      → ((a b : Limit) → test (Some a) (Some b) ≡ ((a.has_value && b.has_value) && P a b)) → ((b : Option Limit) → test None b ≡ false)
      → ((a : Limit) → test (Some a) None ≡ false) → test first last ≡ true
      → (a : Limit) × (b : Limit) × (first ≡ Some a) × (last ≡ Some b) × (a.has_value ≡ true) × (b.has_value ≡ true) × (P a b ≡ true)
  both-limits P None last test some none left is = absurd (false≢true (sym (none last) ∙ is))
  both-limits P (Some a) None test some none left is = absurd (false≢true (sym (left a) ∙ is))
  both-limits P (Some a) (Some b) test some none left is =
      let one = and_parts (a.has_value && b.has_value) (P a b) (sym (some a b) ∙ is) in
      let two = and_parts a.has_value b.has_value one.0 in
      (a, b, refl, refl, two.0, two.1, one.1)

  order-given : (root other : ℕ) (k : ℤ) → AreOutward tree number (fact.Order root other k) → is_given tree bindings state (fact.Order root other k) ≡ true
      → Holds (all_parts tree) (at_most_by root other k) inner
  order-given root other k outward is =
      let (a, b, a_is, b_is, a_has, b_has, below) = both-limits (λ a b. is_at_most state a b) (limit_of_plus tree state bindings root (pos 0))
      (limit_of_plus tree state bindings other k) (are_ordered state) (λ a b. refl) (λ b. refl) (λ a. refl) is in
      let first = plus-limit root (pos 0) a (outward root (0, omega arith, refl)) a_is a_has in
      let last = plus-limit other k b (outward other (1, omega arith, refl)) b_is b_has in
      let less = limits-hold tree caller store state numbers knows a b first.n last.n first.is_limit last.is_limit below in
      let m = first.is_bound in
      let n = last.is_bound in
      let one = m.2 in
      let two = n.2 in
      (m.0, n.0, m.1, n.1, omega (arith, ints, less, one, two))

  abbrev HoldsHere : Claim → Type 0
  HoldsHere one = Holds (all_parts tree) one inner

  each-row : (rows : List ℕ) (f : ℕ → Claim) → ((row : ℕ) → Contains rows row → HoldsHere (f row)) → All HoldsHere (map f rows)
  each-row rows f each = All-map HoldsHere f rows (All-weaker (Contains rows) (λ row. HoldsHere (f row)) each rows (All-contains_itself rows))

  in-root : (path : Path) (row : ℕ) (steps : List Step) → Contains (rows_named tree path) row → HasValue inner path.root steps
      → HasComponent (all_parts tree) inner row steps
  in-root path row steps inside has = subst (λ (r : ℕ). HasValue inner r steps) (sym (named-root tree path row inside)) has

  -- the limits of spans of the callee are numbers there
  abbrev HaveLimits : List fact.Span → List Between → Type 0
  HaveLimits spans limits = (own : List Numbers) × AreBounds inner (map said_span spans) own × AreBetween outer limits own

  limits-are : (spans : List fact.Span) (limits : List Between) → ((root : ℕ) → Contains (flat_map span_roots spans) root → IsOutward tree number root)
      → limits_of tree state bindings spans ≡ Some limits → list_all have_values limits ≡ true → HaveLimits spans limits
  limits-are [] limits outward is have = subst (HaveLimits []) (same_Some [] limits is) ([], tt, tt)
  limits-are (span ∷ spans) limits outward is have =
      let (one, more, one_is, more_is, same) = limits-and (limits_of_span tree state bindings span) (limits_of tree state bindings spans) limits is in
      let (a, b, a_is, b_is, one_same) =
      limits-ends (limit_of_bound tree state bindings span.first) (limit_of_bound tree state bindings span.last) one one_is in
      let values = and_parts (have_values one) (list_all have_values more)
      (subst (λ (all : List Between). list_all have_values all ≡ true) (sym same) have) in
      let both = and_parts a.has_value b.has_value (subst (λ (l : Between). have_values l ≡ true) (sym one_same) values.0) in
      let own_root = λ (r : ℕ) (inside : Contains (span_roots span) r).
      outward r (Contains-append_left (span_roots span) (flat_map span_roots spans) r inside) in
      let low = bound-limit span.first a
      (λ r inside. own_root r (Contains-append_left (bound_roots span.first) (bound_roots span.last) r inside)) a_is both.0 in
      let high = bound-limit span.last b
      (λ r inside. own_root r (Contains-append_right (bound_roots span.first) (bound_roots span.last) r inside)) b_is both.1 in
      let rest = limits-are spans more
      (λ r inside. outward r (Contains-append_right (span_roots span) (flat_map span_roots spans) r inside)) more_is values.1 in
      let numbers_of : Numbers = record { first = low.n; last = high.n } in
      subst (HaveLimits (span ∷ spans)) same (
        numbers_of ∷ rest.0,
        (low.is_bound, high.is_bound, rest.1),
        (subst (λ (l : Between). IsBetween outer l numbers_of) one_same (low.is_limit, high.is_limit), rest.2),
      )

  -- the components between bounds of the callee
  spans-given : (path : Path) (span : fact.Span) (spans : List fact.Span) → AreOutward tree number (fact.Defined path (span ∷ spans))
      → is_given tree bindings state (fact.Defined path (span ∷ spans)) ≡ true → (row : ℕ) → Contains (rows_named tree path) row
      → HoldsHere (defined_of tree (span ∷ spans) row)
  spans-given path span spans outward is row inside = by (limits_of tree state bindings (span ∷ spans)) refl is
    where
      bearers : List Bearer
      bearers = bearers_named tree bindings path

      by : (found : Option (List Between)) → limits_of tree state bindings (span ∷ spans) ≡ found → are_borne_between tree state bearers found ≡ true
          → HoldsHere (defined_of tree (span ∷ spans) row)
      by None found is = absurd (false≢true is)
      by (Some limits) found is =
          let empty = list_any (is_empty_between state) limits in
          let each = list_all (is_borne_between tree state limits) bearers in
          let parts = and_parts (list_all have_values limits) (empty || each) is in
          let own = limits-are (span ∷ spans) limits
          (λ r own. outward r (contains-more path.root (flat_map span_roots (span ∷ spans)) r own)) found parts.0 in (
            own.0,
            own.1,
            λ steps index of_row at lie.
                ⊎_elim (λ none. absurd (none-between tree caller store state numbers knows limits own.0 (indexes_of steps) none own.2 lie))
                (λ all.
                let borne = borne-at path (outward path.root (0, omega arith, refl)) row steps inside of_row in
                in-root path row steps inside
                (between-given limits own.0 own.2 steps index at lie borne.bearer path.root borne.borne
                (all-bearers (is_borne_between tree state limits) bearers borne.bearer all borne.inside)))
                (or_cases empty each parts.1),
          )

  claims-given : (one : Fact) → AreOutward tree number one → is_given tree bindings state one ≡ true → All HoldsHere (said tree one)
  claims-given (fact.Range path range) outward is =
      each-row (rows_named tree path) (λ row. Range row range)
      (λ row inside steps v of_row there.
      let borne = borne-at path (outward path.root (0, omega arith, refl)) row steps inside of_row in
      range-given borne.bearer path.root steps range v borne.borne
      (all-bearers (λ bearer. is_included (range_borne state bearer) range) (bearers_named tree bindings path) borne.bearer is borne.inside)
      (subst (λ (r : ℕ). value_at inner r steps ≡ Some v) (named-root tree path row inside) there))
  claims-given (fact.Defined path []) outward is =
      each-row (rows_named tree path) (defined_of tree [])
      (λ row inside.
      whole-told (all_parts tree) inner row (index_at (rows_of tree) row)
      (λ steps of_row.
      let borne = borne-at path (outward path.root (0, omega arith, refl)) row steps inside of_row in
      in-root path row steps inside
      (defined-given borne.bearer path.root steps borne.borne
      (all-bearers (is_defined_borne tree state) (bearers_named tree bindings path) borne.bearer is borne.inside))))
  claims-given (fact.Defined path (span ∷ spans)) outward is =
      each-row (rows_named tree path) (defined_of tree (span ∷ spans)) (spans-given path span spans outward is)
  claims-given (fact.Order root other k) outward is =
      All-cons HoldsHere (at_most_by root other k) [] (order-given root other k outward is) (All-nil HoldsHere)
  claims-given (fact.Grows root growth) outward is = All-nil HoldsHere

  all-given : (facts : List Fact) → ((one : Fact) → Contains facts one → AreOutward tree number one) → list_all (is_given tree bindings state) facts ≡ true
      → AllHold tree facts callee behind
  all-given [] outward given = All-nil HoldsHere
  all-given (one ∷ facts) outward given =
      let parts = and_parts (is_given tree bindings state one) (list_all (is_given tree bindings state) facts) given in
      All-append HoldsHere (said tree one) (all_said tree facts) (claims-given one (outward one (0, omega arith, refl)) parts.0)
      (all-given facts (λ other inside. outward other (contains-more one facts other inside)) parts.1)

  -- what is given where a block is called holds where it begins
  pub given-hold : (facts : List Fact) → ((one : Fact) → Contains facts one → AreOutward tree number one) → are_given tree bindings state facts ≡ true
      → AllHold tree facts callee behind
  given-hold facts outward given =
      ⊎_elim (λ dead. absurd (false≢true (sym (alive (all_parts tree) (length tree.variables.items) caller state store knows) ∙ dead)))
      (λ all. all-given facts outward all) (or_cases (is_dead state) (list_all (is_given tree bindings state) facts) given)
