-- Where a call begins, each component of a variable that caller and callee know is borne by one of the bearers of what a path names: it has the value of
-- what bears it.
use Rattle.std.proofs.Common.{arith, ◌≡◌, ⊎_elim, ◌∙◌, sym, ap, refl, subst, ℕ, Bool, true, false, cond}
use Rattle.std.proofs.Common.{List, [], ◌∷◌, ◌++◌, map, Option, Some, None}
use Rattle.std.specs.List.{Contains}
use Rattle.std.specs.Prelude.{is_some, slice_get}
use Rattle.std.proofs.lemmas.Option.{slice_get_within}
use Rattle.types.specs.Types.{is_scalar}
use Rattle.types.specs.declared.form.Step.{Step}
use Rattle.typed_tree.specs.Accesses.{Origin, AtVariable, accessed, root_of}
use Rattle.typed_tree.specs.WellFormed.{is_value_kind, is_variable_kind}
use Rattle.typed_tree.specs.declared.tree.Block.{Block}
use Rattle.typed_tree.specs.declared.tree.Selector.{Selector}
use Rattle.typed_tree.specs.declared.tree.Tree.{Tree}
use Rattle.typed_tree.specs.declared.tree.Variable.{Variable as DeclaredVariable}
use Rattle.domain.specs.Facts.{Path}
use Rattle.meaning.specs.declared.value.Value.{Value}
use Rattle.meaning.specs.Meaning as meaning
use Rattle.meaning.specs.Meaning.{Argument, environment_of, own_place, place_for, place_passed}
use Rattle.meaning.specs.Store.{Environment, Place, Store}
use Rattle.checker_rows.specs.Rows.{all_parts, is_under, leaf_rows, numbers_where, own_row, rows_accessed, rows_under}
use Rattle.checker_rows.proofs.Accessed.{IsOf, row-leaf, rows-are, rows-count}
use Rattle.checker_rows.proofs.Components.{map-at}
use Rattle.checker_rows.proofs.Numbered.{contains-has, has-contains}
use Rattle.checker_rows.proofs.Selected.{Matches}
use Rattle.checker_state.specs.Holds.{IsIn, Moment, component_at, moment, part_of, value_at}
use Rattle.checker_state.specs.Loops.{is_among}
use Rattle.checker_state.specs.Stores.{Reach, entire}
use Rattle.checker_loops.specs.Loops.{rows_named}
use Rattle.checker_loops.proofs.VariableRows.{own-type, row-component, scalar-unstructured}
use Rattle.checker_loops.proofs.Lists.{contains-among, in-map, some-there}
use Rattle.checker_calls.specs.Actuals.{Actual, Bearer, Binding, OfRows, OfValue, OfVariable, Passed, all_of_rows, bearers_at, bearers_for, bearers_named}
use Rattle.checker_calls.specs.Actuals.{Reached, bearers_of, bound_to}
use Rattle.checker_calls.specs.Environments.{Begun}
use Rattle.checker_calls.proofs.Assigned.{Received}
use Rattle.checker_calls.proofs.Bearing.{bearer-at, named-root, named-under}
use Rattle.checker_calls.proofs.Callee.{IsCalled, activation_of}
use Rattle.checker_calls.proofs.Entered.{behind_assignments, outer-kept, own-home, passed-where}
use Rattle.checker_calls.proofs.FormalRows.{LiesBy, actual-of_row, formal-row, same-value}
use Rattle.checker_calls.proofs.Origins.{rows-same}
use Rattle.checker_calls.proofs.Parameters.{IsOuter, IsOutward, IsParameter, outward-cases, parameter-block}
use Rattle.checker_calls.proofs.Passed.{AreArguments, Fits, IsArgument, IsReachedBy}
use Rattle.checker_calls.proofs.Started.{callee-received, value-home}
use Rattle.checker_state.specs.Bounds.{Bound}
use Rattle.domain.specs.Interval.{Interval}
use Rattle.types.specs.Types.{is_structured}
use Rattle.typed_tree.specs.WellFormed.{of_one}
use Rattle.std.proofs.lemmas.Bool.{false_from_ne_true}
use Rattle.std.proofs.Common.{length}
use Rattle.types.specs.Components.{components_of}

module _ (tree : Tree) (pairs : List (ℕ × ℕ)) (number : ℕ) (block : Block) (arguments : List Argument) (caller : Environment) (activations from : ℕ)
    (call : IsCalled tree pairs number block arguments caller activations from) (store : Store) (begun : Begun activations store) (actuals : List Actual)
    (are : AreArguments tree caller store block.heading.parameters.items actuals arguments) where
  abbrev pub callee : Environment
  callee = environment_of tree (activation_of number block arguments caller activations)

  abbrev pub bindings : List Binding
  bindings = bound_to block.heading.parameters.items actuals

  abbrev pub behind : Store
  behind = behind_assignments tree pairs number block arguments caller activations from call store

  -- where the callee begins, and where it is called
  abbrev pub inner : Moment
  inner = moment callee behind

  abbrev pub outer : Moment
  outer = moment caller store

  abbrev IsOuterHere : ℕ → DeclaredVariable → Type 0
  IsOuterHere root variable = IsOuter tree pairs number block arguments caller activations from call store actuals are root variable

  abbrev ParameterHere : ℕ → DeclaredVariable → Type 0
  ParameterHere root variable = IsParameter tree caller store activations block.heading.parameters.items actuals arguments root variable

  -- ---- values

  -- what the caller knows is as it was
  pub caller-kept : (root : ℕ) (steps : List Step) → value_at (moment caller behind) root steps ≡ value_at outer root steps
  caller-kept root steps = by (caller.variables root) refl
    where
      by : (found : Option Place) → caller.variables root ≡ found → part_of behind found steps ≡ part_of store found steps
      by None is = refl
      by (Some place) is = outer-kept tree pairs number block arguments caller activations from call store root place is steps

  pub outer-value : (root : ℕ) (variable : DeclaredVariable) → IsOuterHere root variable → (steps : List Step)
      → value_at inner root steps ≡ value_at outer root steps
  outer-value root variable is steps = ap (λ (found : Option Place). part_of behind found steps) is.same ∙ caller-kept root steps

  -- what bears a component of the callee's has its value; what is passed as a value lies in its range
  pub record IsReached (row : ℕ) (reach : Reach) (root : ℕ) (steps : List Step) : Type 0 where
    pub selectors : List Selector
    pub way : List Step
    pub of_row : IsOf tree row (way ++ steps)
    pub reached : IsReachedBy caller store selectors way reach
    pub matches : Matches selectors way
    pub same : value_at inner root steps ≡ component_at (all_parts tree) outer row (way ++ steps)

  abbrev pub IsBorne : Bearer → ℕ → List Step → Type 0
  IsBorne (Passed range) root steps = (v : Value) × (value_at inner root steps ≡ Some v) × IsIn range v
  IsBorne (Reached row reach) root steps = IsReached row reach root steps

  pub record IsBorneBy (bearers : List Bearer) (root : ℕ) (steps : List Step) : Type 0 where
    pub bearer : Bearer
    pub inside : Contains bearers bearer
    pub borne : IsBorne bearer root steps

  -- a variable parameter lies where its actual one leads
  pub lies-at : (root : ℕ) (variable : DeclaredVariable) → slice_get tree.variables.items root ≡ Some variable → is_variable_kind variable.kind ≡ true
      → variable.block ≡ number → (place : Place) → place_for root block.heading.parameters.items arguments ≡ Some place
      → (origin : Origin) (selectors : List Selector) (reach : Reach)
      → IsArgument tree caller store variable (OfVariable origin selectors reach) (meaning.OfPlace (Some place))
      → LiesBy tree caller callee store root origin selectors reach variable.type_id
  lies-at root variable is kind_is own place found origin selectors reach known =
      let leads = known.0 in
      record {
        all = leads.all;
        steps_are = leads.steps_are;
        way = leads.way;
        at = record {
          formal_type = own-type tree root variable is;
          actual_type = known.1;
          place_is = own-home tree (activation_of number block arguments caller activations) root variable is own
              ∙ passed-where (activation_of number block arguments caller activations) root variable.kind kind_is ∙ found ∙ leads.place_is;
          matches = leads.matches;
        };
        reached = leads.reached;
      }

  own-block : (root : ℕ) (variable : DeclaredVariable) → slice_get tree.variables.items root ≡ Some variable → ParameterHere root variable
      → variable.block ≡ number
  own-block root variable is p =
      parameter-block tree pairs number block arguments caller activations from call store actuals are root variable is p

  -- a value parameter has what is passed to it
  pub value-received : (root : ℕ) (variable : DeclaredVariable) → slice_get tree.variables.items root ≡ Some variable → (p : ParameterHere root variable)
      → is_value_kind variable.kind ≡ true → Received tree activations activations callee root variable p.argument behind
  value-received root variable is p value =
      callee-received tree pairs number block arguments caller activations from call store begun p.i root p.argument variable p.root_at p.argument_at is value

  -- ---- a component of a row

  abbrev own_rows : ℕ → List ℕ
  own_rows root = rows_under tree root []

  -- a parameter's row with a component, which a path names
  module _ (path : Path) (variable : DeclaredVariable) (is : slice_get tree.variables.items path.root ≡ Some variable) (row : ℕ) (steps : List Step)
      (of_row : IsOf tree row steps) (among : is_among row (rows_named tree path) ≡ true) (j : ℕ) (at : slice_get (own_rows path.root) j ≡ Some row)
      (p : ParameterHere path.root variable) where
    typed : accessed tree.variables.items tree.types (AtVariable path.root) [] ≡ Some variable.type_id
    typed = own-type tree path.root variable is

    of_type : Contains (components_of tree.types variable.type_id) steps
    of_type = row-component tree path.root row steps variable.type_id typed (has-contains (own_rows path.root) row (j, at)) of_row

    home : is_value_kind variable.kind ≡ true → callee.variables path.root ≡ Some (own_place activations path.root)
    home value =
        value-home tree pairs number block arguments caller activations from call path.root variable is (own-block path.root variable is p) value

    abbrev Borne : Actual → Type 0
    Borne actual = IsBorneBy (bearers_at (rows_named tree path) (own_rows path.root) (bearers_of tree actual)) path.root steps

    -- one to which an ordinal or a set is passed has one row
    value-borne : (range : Interval) (form : Option Bound) (v : Value) → p.argument ≡ meaning.OfValue v → IsIn range v
        → Fits tree activations (meaning.OfValue v) variable → Borne (OfValue range form)
    value-borne range form v argument_is inside fits =
        let one_value : is_scalar tree.types variable.type_id ≡ true = ap is_some fits.1.1 in
        let plain : is_structured tree.types variable.type_id ≡ false =
        false_from_ne_true (is_structured tree.types variable.type_id) (scalar-unstructured tree.types variable.type_id one_value) in
        let rows : own_rows path.root ≡ path.root ∷ [] =
        ap (λ (b : Bool). cond b (numbers_where (is_under path.root []) (length tree.variables.items) (leaf_rows tree)) (own_row path.root []))
        (ap (of_one (λ (v : DeclaredVariable). is_structured tree.types v.type_id)) is ∙ plain) in
        let within = slice_get_within (own_rows path.root) j row at in
        let many : length (own_rows path.root) ≡ 1 = ap length rows in
        let first : j ≡ 0 = omega (arith, within, many) in
        let got = subst (λ (a : Argument). Received tree activations activations callee path.root variable a behind) argument_is
        (value-received path.root variable is p fits.0) in
        let has = got.has steps of_type in
        let gets = got.gets steps has.0 has.1 in
        record {
          bearer = Passed range;
          inside = bearer-at (rows_named tree path) (own_rows path.root) (Passed range ∷ []) j row (Passed range) among at
              (ap (slice_get (Passed range ∷ [])) first);
          borne = (has.0, ap (λ (found : Option Place). part_of behind found steps) (home fits.0) ∙ has.1, subst (IsIn range) (sym gets.1) inside);
        }

    rows-borne : (ranges : List Interval) (values : List Value) → p.argument ≡ meaning.OfRow values
        → IsArgument tree caller store variable (OfRows ranges) (meaning.OfRow values) → Fits tree activations (meaning.OfRow values) variable
        → Borne (OfRows ranges)
    rows-borne ranges values argument_is known fits =
        let count = rows-count tree (AtVariable path.root) [] variable.type_id typed in
        let within = slice_get_within (own_rows path.root) j row at in
        let range = some-there ranges j (omega (arith, count, known.1, within)) in
        let leaf = row-leaf tree (AtVariable path.root) [] variable.type_id typed [] steps j row tt at of_row in
        let got = subst (λ (a : Argument). Received tree activations activations callee path.root variable a behind) argument_is
        (value-received path.root variable is p fits.0) in
        let has = got.has steps of_type in
        let gets = got.gets steps has.0 has.1 in
        let member = known.2 gets.0 j steps leaf.0 has.0 range.0 gets.1 leaf.1 leaf.2 gets.2 range.1 in
        record {
          bearer = Passed range.0;
          inside = bearer-at (rows_named tree path) (own_rows path.root) (map Passed ranges) j row (Passed range.0) among at
              (map-at Passed ranges j range.0 range.1);
          borne = (has.0, ap (λ (found : Option Place). part_of behind found steps) (home fits.0) ∙ has.1, member);
        }

    place-borne : (origin : Origin) (selectors : List Selector) (reach : Reach) (place : Place)
        → IsArgument tree caller store variable (OfVariable origin selectors reach) (meaning.OfPlace (Some place))
        → Fits tree activations (meaning.OfPlace (Some place)) variable → place_for path.root block.heading.parameters.items arguments ≡ Some place
        → Borne (OfVariable origin selectors reach)
    place-borne origin selectors reach place known fits place_is =
        let lies = lies-at path.root variable is fits.0 (own-block path.root variable is p) place place_is origin selectors reach known in
        let other = root_of origin in
        let own = actual-of_row tree caller callee path.root other lies.all lies.way variable.type_id lies.at j row at in
        let accessed = rows_accessed tree origin selectors in
        let whole = rows_accessed tree (AtVariable other) lies.all in
        record {
          bearer = Reached own.0 reach;
          inside = bearer-at (rows_named tree path) (own_rows path.root) (map (λ r. Reached r reach) accessed) j row (Reached own.0 reach) among at
              (map-at (λ r. Reached r reach) accessed j own.0
              (ap (λ (rows : List ℕ). slice_get rows j) (sym (rows-same tree origin selectors lies.all lies.steps_are)) ∙ own.1));
          borne = record {
            selectors = lies.all;
            way = lies.way;
            of_row = formal-row tree caller callee path.root other lies.all lies.way variable.type_id lies.at j row own.0 steps at own.1 of_row;
            reached = lies.reached;
            matches = lies.at.matches;
            same = same-value tree caller callee path.root other lies.all lies.way variable.type_id lies.at behind steps
                ∙ caller-kept other (lies.way ++ steps)
                ∙ ap (λ (r : ℕ). value_at outer r (lies.way ++ steps))
                (sym ((rows-are tree (AtVariable other) lies.all variable.type_id lies.at.actual_type).root_is own.0 (has-contains whole own.0 (j, own.1))));
          };
        }

    actual-borne : (actual : Actual) (argument : Argument) → p.argument ≡ argument → IsArgument tree caller store variable actual argument
        → Fits tree activations argument variable → place_for path.root block.heading.parameters.items arguments ≡ place_passed argument → Borne actual
    actual-borne (OfValue range form) (meaning.OfValue v) argument_is known fits place_is = value-borne range form v argument_is known.0 fits
    actual-borne (OfValue range form) (meaning.OfRow values) argument_is known fits place_is = absurd known
    actual-borne (OfValue range form) (meaning.OfPlace place) argument_is known fits place_is = absurd known
    actual-borne (OfRows ranges) (meaning.OfValue v) argument_is known fits place_is = absurd known
    actual-borne (OfRows ranges) (meaning.OfPlace place) argument_is known fits place_is = absurd known
    actual-borne (OfRows ranges) (meaning.OfRow values) argument_is known fits place_is = rows-borne ranges values argument_is known fits
    actual-borne (OfVariable origin selectors reach) (meaning.OfValue v) argument_is known fits place_is = absurd known
    actual-borne (OfVariable origin selectors reach) (meaning.OfRow values) argument_is known fits place_is = absurd known
    actual-borne (OfVariable origin selectors reach) (meaning.OfPlace None) argument_is known fits place_is = absurd fits
    actual-borne (OfVariable origin selectors reach) (meaning.OfPlace (Some place)) argument_is known fits place_is =
        place-borne origin selectors reach place known fits place_is

  -- a component of a row that a path names
  pub component-borne : (path : Path) → IsOutward tree number path.root → (row : ℕ) (steps : List Step) → Contains (rows_named tree path) row
      → IsOf tree row steps → IsBorneBy (bearers_named tree bindings path) path.root steps
  component-borne path outward row steps named of_row =
      let variable = outward.0 in
      let is = outward.1 in
      ⊎_elim
      (λ (here : IsOuterHere path.root variable).
      let bearers : bearers_named tree bindings path ≡ all_of_rows (rows_named tree path) = ap (bearers_for tree path) here.no_actual in
      record {
        bearer = Reached row entire;
        inside = subst (λ (all : List Bearer). Contains all (Reached row entire)) (sym bearers)
            (in-map (λ r. Reached r entire) (rows_named tree path) row named);
        borne = record {
          selectors = [];
          way = [];
          of_row = of_row;
          reached = record { indexes = tt; all = λ is. refl; none = λ is. refl };
          matches = tt;
          same = outer-value path.root variable here steps ∙ ap (λ (r : ℕ). value_at outer r steps) (sym (named-root tree path row named));
        };
      })
      (λ (p : ParameterHere path.root variable).
      let bearers : bearers_named tree bindings path ≡ bearers_at (rows_named tree path) (own_rows path.root) (bearers_of tree p.actual) =
      ap (bearers_for tree path) p.actual_is in
      let there = contains-has (own_rows path.root) row (named-under tree path row steps named of_row) in
      subst (λ (all : List Bearer). IsBorneBy all path.root steps) (sym bearers)
      (actual-borne path variable is row steps of_row (contains-among (rows_named tree path) row named) there.0 there.1 p p.actual p.argument refl p.known
      p.fits p.place_is))
      (outward-cases tree pairs number block arguments caller activations from call store actuals are path.root outward)
