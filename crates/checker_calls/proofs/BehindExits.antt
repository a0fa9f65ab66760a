-- What is known behind a call holds there, with the facts that are claimed of the end of the callee's block.
use Rattle.std.proofs.Common.{arith, ◌≡◌, ⊎_elim, ◌⊎◌, ◌∙◌, sym, ap, refl, subst, ℕ, Bool, true, false, cond, not, ◌&&◌}
use Rattle.std.proofs.Common.{ℤ, pos, ◌+ℤ◌, ◌-ℤ◌, ◌≤ℤ◌, nat_eq, List, [], ◌∷◌, length, map, Option, Some, None}
use Rattle.std.specs.List.{Contains, flat_map}
use Rattle.std.specs.Prelude.{slice_get}
use Rattle.std.proofs.lemmas.Bool.{and_from, and_parts, cond_both, eq-eqb, false≢true}
use Rattle.std.proofs.lemmas.Int.{ints}
use Rattle.std.proofs.lemmas.List.Elements.{Contains-append_left, Contains-append_right}
use Rattle.std.proofs.lemmas.Option.{cond_some, none-some, same_Some, slice_get_within}
use Rattle.types.specs.Types.{is_structured}
use Rattle.types.specs.declared.form.OrdinalRange.{OrdinalRange}
use Rattle.types.specs.declared.form.Step.{Step}
use Rattle.typed_tree.specs.Accesses.{Origin, AtVariable, root_of}
use Rattle.typed_tree.specs.WellFormed.{is_parameter_kind, is_result_kind, is_value_kind}
use Rattle.typed_tree.specs.declared.tree.Block.{Block}
use Rattle.typed_tree.specs.declared.tree.Selector.{Selector}
use Rattle.typed_tree.specs.declared.tree.Tree.{Tree}
use Rattle.typed_tree.specs.declared.tree.Variable.{Variable as DeclaredVariable}
use Rattle.typed_tree.specs.declared.tree.VariableKind.{VariableKind}
use Rattle.typed_tree.specs.declared.tree.VariableKind.TheVariants as kind
use Rattle.domain.specs.Facts as fact
use Rattle.domain.specs.Facts.{Fact, Path}
use Rattle.meaning.specs.declared.value.Value.{Value}
use Rattle.meaning.specs.declared.value.Value.TheVariants.{Number}
use Rattle.meaning.specs.Meaning as meaning
use Rattle.meaning.specs.Meaning.{Argument, environment_of, own_place, place_for, place_passed}
use Rattle.meaning.specs.Store.{Environment, Place, Store, stored}
use Rattle.checker_rows.specs.Rows.{LieIn, Parts, all_parts, first_index, index_at, indexes_at, indexes_of, is_variable_row, rows_accessed, rows_of}
use Rattle.checker_rows.specs.Rows.{rows_under}
use Rattle.checker_rows.proofs.Accessed.{IsOf, indexes-lie}
use Rattle.checker_rows.proofs.Selected.{Matches}
use Rattle.checker_state.specs.Bounds.{Bound, constant, moved_bound, plus}
use Rattle.checker_state.specs.Holds as holding
use Rattle.checker_state.specs.Holds.{AreBounds, HasComponent, HasNumber, Holds, IsBound, IsBoundBy, LieBetween, Moment, Numbers, StretchHolds}
use Rattle.checker_state.specs.Holds.{moment, part_of, value_at}
use Rattle.checker_state.specs.Knows.{IsOfForm, Knows, bound_rests}
use Rattle.checker_state.specs.Loops.{is_among, with_claim}
use Rattle.checker_state.specs.State.{Claim, Span, State, at_most_by, in_spans}
use Rattle.checker_state.specs.State as state
use Rattle.checker_state.specs.Changes.{both_there, span_between}
use Rattle.checker_state.specs.Stores.{Reach, all_of_row, entire, is_entire}
use Rattle.checker_state.proofs.Apart.{entire-stored}
use Rattle.checker_state.proofs.Assigned.{order-holds}
use Rattle.checker_state.proofs.Bounds.{moved-is}
use Rattle.checker_state.proofs.Changed.{bound-stays}
use Rattle.checker_state.proofs.Given.{first-lies, first-of, whole-told}
use Rattle.checker_state.proofs.Lists.{head-or_tail, in-none}
use Rattle.checker_state.proofs.Looped.{claim-holds}
use Rattle.checker_loops.specs.Loops.{defined_of, rows_named, said, said_bound, said_span}
use Rattle.checker_loops.specs.Sections.{BlockClaims}
use Rattle.checker_loops.specs.Starts.{is_passed_value}
use Rattle.checker_loops.proofs.VariableRows.{no-way, variable-row}
use Rattle.checker_loops.proofs.Lists.{among-contains, contains-more, in-map, in-one, of-map}
use Rattle.checker_calls.specs.Actuals.{Actual, Bearer, Binding, OfRows, OfValue, OfVariable, Passed, Reached, actual_of, all_of_rows, bearers_for}
use Rattle.checker_calls.specs.Actuals.{bearers_named, bearers_of, bound_to}
use Rattle.checker_calls.specs.Environments.{LeavesPassed}
use Rattle.checker_calls.specs.Exit.{Touches, bearer_defined, bearers_defined, behind_call, bounds_ordered, exit_bound, exit_bound_of, exit_plus, exit_spans}
use Rattle.checker_calls.specs.Exit.{exit_span, has_actual, is_own_path, is_steady, row_defined, steady_bound, touched_behind}
use Rattle.checker_calls.specs.Exit.{touches_of, untouched_form, variables_ordered, with_exit, with_exits}
use Rattle.checker_calls.proofs.Assigned.{Received}
use Rattle.checker_calls.proofs.Bearing.{bearer-from, named-root}
use Rattle.checker_calls.proofs.Behind.{call-kept, touched-behind_known}
use Rattle.checker_calls.proofs.Borne.{value-received}
use Rattle.checker_calls.proofs.CallChanges.{HasReturned, touched}
use Rattle.checker_calls.proofs.CallLeaves.{changes, exit-holds}
use Rattle.checker_calls.proofs.Callee.{activation_of}
use Rattle.checker_calls.proofs.Entered.{behind_assignments, parameter-own}
use Rattle.checker_calls.proofs.ExitBearers.{Bears, IsSame, Lies, outer-bears, outer-same, parameter-bears, passed-lies}
use Rattle.checker_calls.proofs.FormalRows.{same-value}
use Rattle.checker_calls.proofs.Given.{AreOutward, bound_roots, fact_roots, span_roots}
use Rattle.checker_calls.proofs.Headings.{one-there}
use Rattle.checker_calls.proofs.Parameters.{IsOuter, IsOutward, IsParameter, actual-of_parameter, outward-cases, parameter-block}
use Rattle.checker_calls.proofs.Origins.{rows-same}
use Rattle.checker_calls.proofs.Passed.{Fits, IsArgument}
use Rattle.checker_calls.proofs.SeenAliases.{listed_pairs}
use Rattle.checker_calls.proofs.Started.{value-home}

-- ---- what may be claimed of the end of a block

-- the result of a block
abbrev pub IsResultOf : Tree → ℕ → ℕ → Type 0
IsResultOf tree number root =
    (variable : DeclaredVariable) × (slice_get tree.variables.items root ≡ Some variable) × (variable.block ≡ number)
    × (is_result_kind variable.kind ≡ true)

abbrev pub IsOwnResult : Tree → ℕ → Fact → Type 0
IsOwnResult tree number (fact.Range path range) = IsResultOf tree number path.root
IsOwnResult tree number (fact.Defined path []) = IsResultOf tree number path.root
IsOwnResult tree number (fact.Defined path (span ∷ spans)) = ⊥
IsOwnResult tree number (fact.Order root other k) = ⊥
IsOwnResult tree number (fact.Grows root growth) = ⊥

-- what was passed to variables that are value parameters is as it was
abbrev pub AreLasting : Tree → ℕ → List ℕ → List ℕ → Type 0
AreLasting tree number changes roots =
    (root : ℕ) (variable : DeclaredVariable) → Contains roots root → slice_get tree.variables.items root ≡ Some variable
    → is_passed_value number variable ≡ true → is_among root changes ≡ false

-- the caller may know the variables of a fact, and they last
pub record IsLasting (tree : Tree) (number : ℕ) (changes : List ℕ) (one : Fact) : Type 0 where
  pub outward : AreOutward tree number one
  pub lasting : AreLasting tree number changes (fact_roots one)

abbrev pub MayEnd : Tree → ℕ → List ℕ → Fact → Type 0
MayEnd tree number changes one = IsOwnResult tree number one ⊎ IsLasting tree number changes one

result-no_parameter : (one : VariableKind) → is_result_kind one ≡ true → is_parameter_kind one ≡ true → ⊥
result-no_parameter kind.Local result parameter = false≢true result
result-no_parameter kind.ValueParameter result parameter = false≢true result
result-no_parameter kind.VariableParameter result parameter = false≢true result
result-no_parameter kind.Result result parameter = false≢true parameter

-- ---- stretches of one span

abbrev one_span : ℕ → Bound → Bound → state.Stretch
one_span row first last = record { row = row; spans = record { first = first; last = last } ∷ [] }

-- each component of a row whose first index lies between two numbers is defined
abbrev IsBetween : List Parts → Moment → ℕ → ℤ → ℤ → Type 0
IsBetween rows m row low high =
    (steps : List Step) (index : ℤ) → holding.IsOfRow rows row steps → first_index steps ≡ Some index → low ≤ℤ index → index ≤ℤ high
    → HasComponent rows m row steps

span-parts : (rows : List Parts) (m : Moment) (row : ℕ) (first last : Bound) → StretchHolds rows (one_span row first last) m
    → (low high : ℤ) × IsBound m first low × IsBound m last high × IsBetween rows m row low high
span-parts rows m row first last ([], bounds, each) = absurd bounds
span-parts rows m row first last (one ∷ two ∷ numbers, bounds, each) = absurd bounds.2
span-parts rows m row first last (one ∷ [], bounds, each) = (
  one.first,
  one.last,
  bounds.0,
  bounds.1,
  λ steps index of_row is low high.
      each steps index of_row is (subst (λ (indexes : List ℤ). LieBetween (one ∷ []) indexes) (sym (first-of steps index is).1) (low, high, tt)),
)

-- ---- spans that are all there

span-and : (one : Option Span) (more : Option (List Span)) (found : List Span) → both_there one more ≡ Some found
    → (first : Span) × (rest : List Span) × (one ≡ Some first) × (more ≡ Some rest) × ((first ∷ rest) ≡ found)
span-and None more found is = absurd (none-some found is)
span-and (Some one) None found is = absurd (none-some found is)
span-and (Some one) (Some more) found is = (one, more, refl, refl, same_Some (one ∷ more) found is)

span-ends : (first last : Option Bound) (span : Span) → span_between first last ≡ Some span
    → (a b : Bound) × (first ≡ Some a) × (last ≡ Some b) × ((let one : Span = record { first = a; last = b } in one) ≡ span)
span-ends None last span is = absurd (none-some span is)
span-ends (Some a) None span is = absurd (none-some span is)
span-ends (Some a) (Some b) span is = (a, b, refl, refl, same_Some (record { first = a; last = b }) span is)

none-some_more : {one : Span} {more : List Span} → (one ∷ more) ≡ [] → ⊥
none-some_more is = cc

-- a root of one of some spans is one of theirs
root-inside : (spans : List fact.Span) (span : fact.Span) (root : ℕ) → Contains spans span → Contains (span_roots span) root
    → Contains (flat_map span_roots spans) root
root-inside [] span root inside own = absurd (in-none span inside)
root-inside (one ∷ spans) span root inside own =
    ⊎_elim
    (λ same.
    Contains-append_left (span_roots one) (flat_map span_roots spans) root (subst (λ (s : fact.Span). Contains (span_roots s) root) (sym same) own))
    (λ later. Contains-append_right (span_roots one) (flat_map span_roots spans) root (root-inside spans span root later own))
    (head-or_tail one span spans inside)

module _ (tree : Tree) (pairs : List (ℕ × ℕ)) (number : ℕ) (block : Block) (arguments : List Argument) (caller : Environment) (activations from : ℕ)
    (store : Store) (actuals : List Actual) (claims : BlockClaims) (after : Store)
    (back : HasReturned tree pairs number block arguments caller activations from store actuals claims after)
    (passed : LeavesPassed tree activations number claims.changes
    (behind_assignments tree pairs number block arguments caller activations from back.call store) after) where
  abbrev callee : Environment
  callee = environment_of tree (activation_of number block arguments caller activations)

  abbrev bindings : List Binding
  bindings = bound_to block.heading.parameters.items actuals

  abbrev inner : Moment
  inner = moment callee after

  abbrev outer : Moment
  outer = moment caller after

  abbrev total : ℕ
  total = length tree.variables.items

  abbrev touches : Touches
  touches = touches_of tree (listed_pairs tree pairs) from bindings claims

  abbrev IsOuterHere : ℕ → DeclaredVariable → Type 0
  IsOuterHere root variable = IsOuter tree pairs number block arguments caller activations from back.call store actuals back.are root variable

  abbrev ParameterHere : ℕ → DeclaredVariable → Type 0
  ParameterHere root variable = IsParameter tree caller store activations block.heading.parameters.items actuals arguments root variable

  abbrev LiesHere : ℕ → DeclaredVariable → Origin → List Selector → Reach → Type 0
  LiesHere root variable origin selectors reach =
      Lies tree pairs number block arguments caller activations from store actuals claims after back.left root variable origin selectors reach

  abbrev BearsHere : Bearer → ℕ → Type 0
  BearsHere bearer row = Bears tree pairs number block arguments caller activations from store actuals claims after back.left bearer row

  cases : (root : ℕ) → (outward : IsOutward tree number root) → IsOuterHere root outward.0 ⊎ ParameterHere root outward.0
  cases root outward = outward-cases tree pairs number block arguments caller activations from back.call store actuals back.are root outward

  -- ---- bounds

  same-numbers : (a b : ℤ) → Number a ≡ Number b → a ≡ b
  same-numbers a b is = cc

  -- a value parameter still has what was passed to it
  value-kept : (root : ℕ) (variable : DeclaredVariable) → slice_get tree.variables.items root ≡ Some variable → (p : ParameterHere root variable) → (v : Value)
      → p.argument ≡ meaning.OfValue v → is_value_kind variable.kind ≡ true → is_among root claims.changes ≡ false → (m : ℤ)
      → HasNumber inner root m → v ≡ Number m
  value-kept root variable is p v argument_is value apart m has =
      let own = parameter-block tree pairs number block arguments caller activations from back.call store actuals back.are root variable is p in
      let home = value-home tree pairs number block arguments caller activations from back.call root variable is own value in
      let kept = passed root variable [] is (and_from (nat_eq variable.block number) (is_value_kind variable.kind) (eq-eqb variable.block number own) value)
      apart in
      let got = subst (λ (a : Argument). Received tree activations activations callee root variable a
      (behind_assignments tree pairs number block arguments caller activations from back.call store)) argument_is
      (value-received tree pairs number block arguments caller activations from back.call store back.begun actuals back.are root variable is p
      value) in
      let at : stored after (own_place activations root) ≡ Some (Number m) =
      sym (entire-stored after (own_place activations root)) ∙ sym (ap (λ (found : Option Place). part_of after found []) home) ∙ has in
      sym (got.gets [] (Number m) (sym kept ∙ at)).1

  form-bound : (k m : ℤ) (form : Option Bound) (v : Value) → v ≡ Number m → IsOfForm (moment caller store) form v → (b : Bound)
      → untouched_form touches k form ≡ Some b → IsBound outer b (m +ℤ k)
  form-bound k m None v v_is of_form b is = absurd (none-some b is)
  form-bound k m (Some own) v v_is (n, n_is, own_is) b is = by (bound_rests touches.touched own) refl is
    where
      by : (rests : Bool) → bound_rests touches.touched own ≡ rests → cond rests None (moved_bound k own) ≡ Some b → IsBound outer b (m +ℤ k)
      by true rests is = absurd (none-some b is)
      by false free is =
          let kept = call-kept tree pairs number block arguments caller activations from store actuals claims after back in
          moved-is outer k own b m is
          (bound-stays (moment caller store) outer touches.touched (λ root x apart has. kept.values root apart [] ∙ has) own m free
          (subst (λ (x : ℤ). IsBound (moment caller store) own x) (same-numbers n m (sym n_is ∙ v_is)) own_is))

  -- the one row that bears an entire variable
  steady-row : (k : ℤ) (rows : List ℕ) (reach : Reach) (b : Bound) → steady_bound tree touches k (map (λ row. Reached row reach) rows) ≡ Some b
      → (row : ℕ) × Contains rows row × (is_variable_row tree row ≡ true) × (plus row k ≡ b)
  steady-row k [] reach b is = absurd (none-some b is)
  steady-row k (row ∷ other ∷ rows) reach b is = absurd (none-some b is)
  steady-row k (row ∷ []) reach b is =
      let found = cond_some (is_variable_row tree row && is_steady touches row) (plus row k) b is in
      (row, (0, omega arith, refl), (and_parts (is_variable_row tree row) (is_steady touches row) found.0).0, found.1)

  -- it is the whole of a variable, and so is the parameter
  row-value : (root : ℕ) (variable : DeclaredVariable) (origin : Origin) (selectors : List Selector) (reach : Reach)
      → LiesHere root variable origin selectors reach → (row : ℕ) → Contains (rows_accessed tree origin selectors) row → is_variable_row tree row ≡ true
      → value_at inner root [] ≡ value_at outer row []
  row-value root variable origin selectors reach lies row inside own =
      let other = root_of origin in
      let found = one-there (λ (v : DeclaredVariable). not (is_structured tree.types v.type_id)) (slice_get tree.variables.items row) own in
      let whole = variable-row tree (AtVariable other) lies.all row
      (subst (λ (rows : List ℕ). Contains rows row) (sym (rows-same tree origin selectors lies.all lies.steps_are)) inside)
      (slice_get_within tree.variables.items row found.0 found.1) in
      let matches = subst (λ (s : List Selector). Matches s lies.way) whole.1 lies.at.matches in
      same-value tree caller callee root other lies.all lies.way variable.type_id lies.at after [] ∙ ap (value_at outer other) (no-way lies.way matches)
      ∙ ap (λ (r : ℕ). value_at outer r []) whole.0

  parameter-bound : (root : ℕ) (variable : DeclaredVariable) → slice_get tree.variables.items root ≡ Some variable → (p : ParameterHere root variable)
      → (is_passed_value number variable ≡ true → is_among root claims.changes ≡ false) → (k m n : ℤ) → HasNumber inner root m → (m +ℤ k) ≡ n → (b : Bound)
      → (actual : Actual) (argument : Argument) → p.argument ≡ argument
      → place_for root block.heading.parameters.items arguments ≡ place_passed argument → IsArgument tree caller store variable actual argument
      → Fits tree activations argument variable → exit_bound_of tree touches root k (Some actual) ≡ Some b → IsBound outer b n
  parameter-bound root variable is p lasting k m n has n_is b (OfValue range form) (meaning.OfValue v) argument_is place_is known fits bound_is =
      let own = parameter-block tree pairs number block arguments caller activations from back.call store actuals back.are root variable is p in
      let passed_so : is_passed_value number variable ≡ true =
      ap (λ (b : Bool). b && is_value_kind variable.kind) (eq-eqb variable.block number own) ∙ fits.0 in
      let v_is = value-kept root variable is p v argument_is fits.0 (lasting passed_so) m has in
      subst (IsBound outer b) n_is (form-bound k m form v v_is known.1 b bound_is)
  parameter-bound root variable is p lasting k m n has n_is b (OfValue range form) (meaning.OfRow values) argument_is place_is known fits bound_is = absurd
      known
  parameter-bound root variable is p lasting k m n has n_is b (OfValue range form) (meaning.OfPlace place) argument_is place_is known fits bound_is = absurd
      known
  parameter-bound root variable is p lasting k m n has n_is b (OfRows ranges) argument argument_is place_is known fits bound_is = absurd (none-some b bound_is)
  parameter-bound root variable is p lasting k m n has n_is b (OfVariable origin selectors reach) (meaning.OfValue v) argument_is place_is known fits bound_is =
      absurd known
  parameter-bound root variable is p lasting k m n has n_is b (OfVariable origin selectors reach) (meaning.OfRow values) argument_is place_is known fits
      bound_is = absurd known
  parameter-bound root variable is p lasting k m n has n_is b (OfVariable origin selectors reach) (meaning.OfPlace None) argument_is place_is known fits
      bound_is =
      absurd fits
  parameter-bound root variable is p lasting k m n has n_is b (OfVariable origin selectors reach) (meaning.OfPlace (Some place)) argument_is place_is known fits
      bound_is =
      let lies = passed-lies tree pairs number block arguments caller activations from store actuals claims after back.left root variable is p origin selectors
      reach place place_is known fits in
      let (row, inside, own, same) = steady-row k (rows_accessed tree origin selectors) reach b bound_is in
      subst (λ (x : Bound). IsBound outer x n) same (m, sym (row-value root variable origin selectors reach lies row inside own) ∙ has, n_is)

  -- a variable of the callee plus a number at its end is that number for the caller
  plus-behind : (root : ℕ) (k m n : ℤ) → IsOutward tree number root → AreLasting tree number claims.changes (root ∷ []) → HasNumber inner root m
      → (m +ℤ k) ≡ n → (b : Bound) → exit_plus tree bindings touches root k ≡ Some b → IsBound outer b n
  plus-behind root k m n outward lasting has n_is b bound_is =
      ⊎_elim
      (λ (here : IsOuterHere root outward.0).
      let same = cond_some (is_steady touches root) (plus root k) b (sym (ap (exit_bound_of tree touches root k) here.no_actual) ∙ bound_is) in
      subst (λ (x : Bound). IsBound outer x n) same.1 (
        m,
        sym (outer-same tree pairs number block arguments caller activations from store actuals claims after back.left root outward.0 here []) ∙ has,
        n_is,
      ))
      (λ (p : ParameterHere root outward.0).
      parameter-bound root outward.0 outward.1 p (lasting root outward.0 (0, omega arith, refl) outward.1) k m n has n_is b p.actual p.argument refl p.place_is
      p.known p.fits (sym (ap (exit_bound_of tree touches root k) p.actual_is) ∙ bound_is))
      (cases root outward)

  -- so it is with any bound
  bound-behind : (bound : fact.Bound) (n : ℤ) → ((root : ℕ) → Contains (bound_roots bound) root → IsOutward tree number root)
      → AreLasting tree number claims.changes (bound_roots bound) → IsBound inner (said_bound bound) n → (b : Bound)
      → exit_bound tree bindings touches bound ≡ Some b → IsBound outer b n
  bound-behind (fact.Number c) n outward lasting is b bound_is = subst (λ (x : Bound). IsBound outer x n) (same_Some (constant c) b bound_is) is
  bound-behind (fact.Plus root k) n outward lasting (m, has, n_is) b bound_is =
      plus-behind root k m n (outward root (0, omega arith, refl)) lasting has n_is b bound_is

  -- ---- bearers at the end

  -- what bears a row that a path names
  abbrev IsSeen : Path → Bearer → Type 0
  IsSeen path bearer = (row : ℕ) × Contains (rows_named tree path) row × BearsHere bearer row

  bearers-seen : (path : Path) → IsOutward tree number path.root → (bearer : Bearer) → Contains (bearers_named tree bindings path) bearer
      → IsSeen path bearer
  bearers-seen path outward bearer inside =
      ⊎_elim
      (λ (here : IsOuterHere path.root outward.0).
      outer-seen here (subst (λ (found : Option Actual). Contains (bearers_for tree path found) bearer) here.no_actual inside))
      (λ (p : ParameterHere path.root outward.0).
      let bearers = bearers_of tree p.actual in
      let rows = rows_under tree path.root [] in
      let (j, row, among, row_at, at) = bearer-from (rows_named tree path) rows bearers bearer
      (subst (λ (found : Option Actual). Contains (bearers_for tree path found) bearer) p.actual_is inside) in (
        row,
        among-contains (rows_named tree path) row among,
        parameter-bears tree pairs number block arguments caller activations from store actuals claims after back.left path.root outward.0 outward.1 p p.actual
            p.argument p.place_is p.known p.fits j row bearer row_at at,
      ))
      (cases path.root outward)
    where
      outer-seen : IsOuterHere path.root outward.0 → Contains (all_of_rows (rows_named tree path)) bearer → IsSeen path bearer
      outer-seen here inside =
          let found = of-map (λ r. Reached r entire) (rows_named tree path) bearer inside in (
            found.0,
            found.1,
            subst (λ (b : Bearer). BearsHere b found.0) found.2
                (outer-bears tree pairs number block arguments caller activations from store actuals claims after back.left path.root outward.0 here found.0
                (named-root tree path found.0 found.1)),
          )

  -- ---- facts

  abbrev KnowsHere : State → Type 0
  KnowsHere known = Knows (all_parts tree) total caller known after

  claim-known : (claim : Claim) (known : State) → Holds (all_parts tree) claim outer → KnowsHere known → KnowsHere (with_claim claim known)
  claim-known claim known so knows = record { shows = knows.shows; holds = claim-holds (all_parts tree) outer claim known so knows.holds }

  unless-entire : (reach : Reach) (more known : State) → (is_entire reach ≡ true → KnowsHere more) → KnowsHere known
      → KnowsHere (cond (is_entire reach) more known)
  unless-entire reach more known so knows = cond_both (is_entire reach) more known KnowsHere so (λ part. knows)

  exit-here : (one : Fact) (claim : Claim) → Contains claims.exit one → Contains (said tree one) claim → Holds (all_parts tree) claim inner
  exit-here one claim listed inside =
      exit-holds tree pairs number block arguments caller activations from store actuals claims after back one claim listed inside

  whole-has : (row : ℕ) (ranges : List OrdinalRange) → indexes_at (rows_of tree) row ≡ ranges
      → Holds (all_parts tree) (all_of_row (slice_get ranges 0) row) inner
      → (steps : List Step) → IsOf tree row steps → HasComponent (all_parts tree) inner row steps
  whole-has row [] ranges_are claim steps of_row = claim steps of_row
  whole-has row (range ∷ ranges) ranges_are claim steps of_row =
      let lie = subst (λ (all : List OrdinalRange). LieIn all (indexes_of steps)) ranges_are (indexes-lie tree row steps of_row) in
      let at = first-lies range ranges steps lie in
      let (low, high, low_is, high_is, each) = span-parts (all_parts tree) inner row (constant range.first) (constant range.last) claim in
      each steps at.0 of_row at.1 (subst (λ (n : ℤ). n ≤ℤ at.0) low_is at.2) (subst (λ (n : ℤ). at.0 ≤ℤ n) high_is at.3)

  -- a bound of the callee is one of the caller's, if that is there
  abbrev BecomesBound : fact.Bound → Option Bound → Type 0
  BecomesBound bound found = (n : ℤ) → IsBound inner (said_bound bound) n → (b : Bound) → found ≡ Some b → IsBound outer b n

  -- what is known of a row that a path names, as rows that bear it are defined
  abbrev SameRow : ℕ → ℕ → Type 0
  SameRow row own =
      (steps : List Step) → IsOf tree own steps
      → IsSame tree pairs number block arguments caller activations from store actuals claims after back.left row own steps

  abbrev DefinesRow : Path → Option (List Span) → Type 0
  DefinesRow path found =
      (own row : ℕ) → Contains (rows_named tree path) row → SameRow row own → (known : State) → KnowsHere known
      → KnowsHere (row_defined tree found own known)

  whole-row : (path : Path) → Contains claims.exit (fact.Defined path []) → DefinesRow path (Some [])
  whole-row path listed own row named same known knows =
      claim-known (all_of_row (index_at (rows_of tree) own) own) known
      (whole-told (all_parts tree) outer own (index_at (rows_of tree) own)
      (λ steps of_row.
      let at = same steps of_row in
      let has = whole-has row (indexes_at (rows_of tree) row) refl
      (exit-here (fact.Defined path []) (defined_of tree [] row) listed (in-map (defined_of tree []) (rows_named tree path) row named))
      at.rest at.of_row in
      (has.0, at.value ∙ has.1))) knows

  -- the bounds of spans of the callee are those of the caller's, if all are there
  abbrev BecomeBounds : fact.Span → Type 0
  BecomeBounds span =
      BecomesBound span.first (exit_bound tree bindings touches span.first) × BecomesBound span.last (exit_bound tree bindings touches span.last)

  spans-become : (spans : List fact.Span) → ((span : fact.Span) → Contains spans span → BecomeBounds span) → (numbers : List Numbers)
      → AreBounds inner (map said_span spans) numbers → (found : List Span) → exit_spans tree bindings touches spans ≡ Some found
      → AreBounds outer found numbers
  spans-become [] become [] are found is = subst (λ (all : List Span). AreBounds outer all []) (same_Some [] found is) tt
  spans-become [] become (own ∷ numbers) are found is = absurd are
  spans-become (span ∷ spans) become [] are found is = absurd are
  spans-become (span ∷ spans) become (own ∷ numbers) are found is =
      let (one, more, one_is, more_is, same) = span-and (exit_span tree bindings touches span) (exit_spans tree bindings touches spans) found is in
      let (first, last, first_is, last_is, span_is) =
      span-ends (exit_bound tree bindings touches span.first) (exit_bound tree bindings touches span.last) one one_is in
      let ends = become span (0, omega arith, refl) in
      subst (λ (all : List Span). AreBounds outer all (own ∷ numbers)) same (
        subst (λ (s : Span). IsBound outer s.first own.first) span_is (ends.0 own.first are.0 first first_is),
        subst (λ (s : Span). IsBound outer s.last own.last) span_is (ends.1 own.last are.1 last last_is),
        spans-become spans (λ other inside. become other (contains-more span spans other inside)) numbers are.2 more more_is,
      )

  row-spans : (path : Path) (span : fact.Span) (spans : List fact.Span) → Contains claims.exit (fact.Defined path (span ∷ spans))
      → ((one : fact.Span) → Contains (span ∷ spans) one → BecomeBounds one) → DefinesRow path (exit_spans tree bindings touches (span ∷ spans))
  row-spans path span spans listed become own row named same known knows = by (exit_spans tree bindings touches (span ∷ spans)) refl
    where
      by : (found : Option (List Span)) → exit_spans tree bindings touches (span ∷ spans) ≡ found → KnowsHere (row_defined tree found own known)
      by None is = knows
      by (Some []) is =
          let parts = span-and (exit_span tree bindings touches span) (exit_spans tree bindings touches spans) [] is in absurd (none-some_more parts.4)
      by (Some (one ∷ more)) is =
          let claim : Claim = in_spans own (one ∷ more) in
          cond_both (is_variable_row tree own) known (with_claim claim known) KnowsHere (λ variable. knows)
          (λ other.
          let (numbers, bounds, each) = exit-here (fact.Defined path (span ∷ spans)) (defined_of tree (span ∷ spans) row) listed
          (in-map (defined_of tree (span ∷ spans)) (rows_named tree path) row named) in
          claim-known claim known (
            numbers,
            spans-become (span ∷ spans) become numbers bounds (one ∷ more) is,
            λ steps index of_row first lie.
                let at = same steps of_row in
                let has = each at.rest index at.of_row (sym at.first ∙ first) (subst (LieBetween numbers) at.all lie) in
                (has.0, at.value ∙ has.1),
          ) knows)

  -- so it is of what bears rows of a path
  bearer-defined : (path : Path) (found : Option (List Span)) → DefinesRow path found → (bearer : Bearer) → IsSeen path bearer → (known : State)
      → KnowsHere known → KnowsHere (bearer_defined tree found bearer known)
  bearer-defined path found defines (Passed range) seen known knows = knows
  bearer-defined path found defines (Reached own reach) (row, named, bears) known knows =
      unless-entire reach (row_defined tree found own known) known (λ all. defines own row named (λ steps of_row. bears all steps of_row) known knows) knows

  all-defined : (path : Path) (found : Option (List Span)) → DefinesRow path found → (bearers : List Bearer)
      → ((bearer : Bearer) → Contains bearers bearer → IsSeen path bearer)
      → (known : State) → KnowsHere known → KnowsHere (bearers_defined tree found bearers known)
  all-defined path found defines [] seen known knows = knows
  all-defined path found defines (bearer ∷ bearers) seen known knows =
      all-defined path found defines bearers (λ other later. seen other (contains-more bearer bearers other later)) (bearer_defined tree found bearer known)
      (bearer-defined path found defines bearer (seen bearer (0, omega arith, refl)) known knows)

  -- an order of two bounds
  variables-known : (one other : Option ℕ) (k l m n : ℤ) → IsBoundBy outer one k m → IsBoundBy outer other l n → m ≤ℤ n → (known : State) → KnowsHere known
      → KnowsHere (variables_ordered one k other l known)
  variables-known None other k l m n one_is other_is less known knows = knows
  variables-known (Some root) None k l m n one_is other_is less known knows = knows
  variables-known (Some root) (Some other) k l m n (x, x_is, m_is) (y, y_is, n_is) less known knows = record {
    shows = knows.shows;
    holds = order-holds (all_parts tree) outer known root other x y (l -ℤ k) x_is y_is (omega (arith, ints, less, m_is, n_is)) knows.holds;
  }

  bounds-known : (low high : Option Bound) (m n : ℤ) → ((b : Bound) → low ≡ Some b → IsBound outer b m) → ((b : Bound) → high ≡ Some b → IsBound outer b n)
      → m ≤ℤ n → (known : State) → KnowsHere known → KnowsHere (bounds_ordered low high known)
  bounds-known None high m n low_is high_is less known knows = knows
  bounds-known (Some low) None m n low_is high_is less known knows = knows
  bounds-known (Some low) (Some high) m n low_is high_is less known knows =
      variables-known low.root high.root low.number high.number m n (low_is low refl) (high_is high refl) less known knows

  -- ---- a claim

  abbrev is_own_here : Path → Bool
  is_own_here path = is_own_path number path bindings (slice_get tree.variables.items path.root)

  own-result : (path : Path) → IsResultOf tree number path.root → is_own_here path ≡ true
  own-result path (variable, is, own, result) =
      ap (is_own_path number path bindings) is
      ∙ ap (λ (b : Bool). b && not (has_actual (actual_of bindings path.root))) (eq-eqb variable.block number own) ∙ none (actual_of bindings path.root) refl
    where
      none : (found : Option Actual) → actual_of bindings path.root ≡ found → not (has_actual found) ≡ true
      none None at = refl
      none (Some actual) at =
          let inside = actual-of_parameter block.heading.parameters.items actuals path.root actual at in
          let parameter = parameter-own tree back.call.well number block back.call.block_is path.root inside in
          let same : parameter.0 ≡ variable = same_Some parameter.0 variable (sym parameter.1 ∙ is) in
          absurd (result-no_parameter variable.kind result (subst (λ (v : DeclaredVariable). is_parameter_kind v.kind ≡ true) same parameter.3))

  either-own : (path : Path) (known more : State) → (is_own_here path ≡ false → KnowsHere more) → KnowsHere known
      → KnowsHere (cond (is_own_here path) known more)
  either-own path known more so knows = cond_both (is_own_here path) known more KnowsHere (λ own. knows) so

  bound-here : (bound : fact.Bound) (one : Fact) → IsLasting tree number claims.changes one
      → ((root : ℕ) → Contains (bound_roots bound) root → Contains (fact_roots one) root) → BecomesBound bound (exit_bound tree bindings touches bound)
  bound-here bound one lasts inside n is b bound_is =
      bound-behind bound n (λ root own. lasts.outward root (inside root own))
      (λ root variable own variable_is value. lasts.lasting root variable (inside root own) variable_is value) is b bound_is

  plus-here : (root : ℕ) (k m n : ℤ) (one : Fact) → IsLasting tree number claims.changes one → Contains (fact_roots one) root → HasNumber inner root m
      → (m +ℤ k) ≡ n → (b : Bound) → exit_plus tree bindings touches root k ≡ Some b → IsBound outer b n
  plus-here root k m n one lasts inside has n_is b bound_is =
      plus-behind root k m n (lasts.outward root inside)
      (λ other variable own variable_is value.
      lasts.lasting other variable (subst (Contains (fact_roots one)) (in-one root other own) inside) variable_is value)
      has n_is b bound_is

  spans-define : (path : Path) (spans : List fact.Span) → IsLasting tree number claims.changes (fact.Defined path spans)
      → Contains claims.exit (fact.Defined path spans) → DefinesRow path (exit_spans tree bindings touches spans)
  spans-define path [] lasts listed = whole-row path listed
  spans-define path (span ∷ spans) lasts listed =
      let one = fact.Defined path (span ∷ spans) in
      let own_root = λ (other : fact.Span) (there : Contains (span ∷ spans) other) (root : ℕ) (inside : Contains (span_roots other) root).
      contains-more path.root (flat_map span_roots (span ∷ spans)) root (root-inside (span ∷ spans) other root there inside) in
      row-spans path span spans listed (λ other there. (
        bound-here other.first one lasts
            (λ root inside. own_root other there root (Contains-append_left (bound_roots other.first) (bound_roots other.last) root inside)),
        bound-here other.last one lasts
            (λ root inside. own_root other there root (Contains-append_right (bound_roots other.first) (bound_roots other.last) root inside)),
      ))

  -- the whole of a result is a claim on what the callee alone knows
  own-whole : (path : Path) (spans : List fact.Span) → IsOwnResult tree number (fact.Defined path spans) → is_own_here path ≡ true
  own-whole path [] result = own-result path result
  own-whole path (span ∷ spans) never = absurd never

  exit-known : (one : Fact) → Contains claims.exit one → MayEnd tree number claims.changes one → (known : State) → KnowsHere known
      → KnowsHere (with_exit tree number bindings touches one known)
  exit-known (fact.Range path range) listed may known knows = knows
  exit-known (fact.Defined path spans) listed may known knows =
      let found = exit_spans tree bindings touches spans in
      either-own path known (bearers_defined tree found (bearers_named tree bindings path) known)
      (λ not_own.
      ⊎_elim (λ result. absurd (false≢true (sym not_own ∙ own-whole path spans result)))
      (λ (lasts : IsLasting tree number claims.changes (fact.Defined path spans)).
      all-defined path found (spans-define path spans lasts listed) (bearers_named tree bindings path)
      (bearers-seen path (lasts.outward path.root (0, omega arith, refl))) known knows) may) knows
  exit-known (fact.Order root other k) listed may known knows =
      ⊎_elim (λ never. absurd never)
      (λ (lasts : IsLasting tree number claims.changes (fact.Order root other k)).
      let (m, n, m_is, n_is, less) = exit-here (fact.Order root other k) (at_most_by root other k) listed (0, omega arith, refl) in
      bounds-known (exit_plus tree bindings touches root (pos 0)) (exit_plus tree bindings touches other k) (m +ℤ pos 0) (n +ℤ k)
      (λ b is. plus-here root (pos 0) m (m +ℤ pos 0) (fact.Order root other k) lasts (0, omega arith, refl) m_is refl b is)
      (λ b is. plus-here other k n (n +ℤ k) (fact.Order root other k) lasts (1, omega arith, refl) n_is refl b is)
      (omega (arith, ints, less)) known knows) may
  exit-known (fact.Grows root growth) listed may known knows = knows

  exits-known : (facts : List Fact) → ((one : Fact) → Contains facts one → Contains claims.exit one)
      → ((one : Fact) → Contains facts one → MayEnd tree number claims.changes one) → (known : State) → KnowsHere known
      → KnowsHere (with_exits tree number bindings touches facts known)
  exits-known [] there may known knows = knows
  exits-known (one ∷ facts) there may known knows =
      exits-known facts (λ other later. there other (contains-more one facts other later)) (λ other later. may other (contains-more one facts other later))
      (with_exit tree number bindings touches one known)
      (exit-known one (there one (0, omega arith, refl)) (may one (0, omega arith, refl)) known knows)

  -- what is known behind a call holds there
  pub behind-known : ((one : Fact) → Contains claims.exit one → MayEnd tree number claims.changes one) → (known : State)
      → Knows (all_parts tree) total caller known store
      → Knows (all_parts tree) total caller (behind_call tree (listed_pairs tree pairs) from number bindings claims known) after
  behind-known may known knows =
      exits-known claims.exit (λ one inside. inside) may
      (touched_behind tree (changes tree pairs number block arguments caller activations from store actuals claims after back)
      (touched tree pairs number block arguments caller activations from store actuals claims after back.left) known)
      (touched-behind_known tree pairs number block arguments caller activations from store actuals claims after back known knows)
