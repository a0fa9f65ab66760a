-- What bears the leaves of a variable of a callee for its caller: where the callee ends, all of a row of the caller's is a row of the callee's, component
-- by component.
use Rattle.std.proofs.Common.{◌≡◌, ◌∙◌, sym, ap, refl, subst, ℕ, Bool, true, List, [], ◌∷◌, ◌++◌, map, Option, Some, None}
use Rattle.std.specs.List.{Contains}
use Rattle.std.specs.Prelude.{slice_get, slice_index_or}
use Rattle.std.proofs.lemmas.Bool.{false≢true}
use Rattle.std.proofs.lemmas.Option.{same_Some}
use Rattle.types.specs.declared.form.Step.{Step}
use Rattle.typed_tree.specs.Accesses.{Origin, AtVariable, root_of}
use Rattle.typed_tree.specs.declared.tree.Block.{Block}
use Rattle.typed_tree.specs.declared.tree.Selector.{Selector}
use Rattle.typed_tree.specs.declared.tree.Tree.{Tree}
use Rattle.typed_tree.specs.declared.tree.Variable.{Variable as DeclaredVariable}
use Rattle.domain.specs.Interval.{Interval}
use Rattle.meaning.specs.Meaning as meaning
use Rattle.meaning.specs.Meaning.{Argument, environment_of, place_for, place_passed}
use Rattle.meaning.specs.Store.{Environment, Place, Store}
use Rattle.checker_rows.specs.Rows.{all_parts, first_index, indexes_of, no_parts, rows_accessed, rows_under}
use Rattle.checker_rows.proofs.Accessed.{IsOf, rows-are}
use Rattle.checker_rows.proofs.Components.{mapped-at}
use Rattle.checker_rows.proofs.Numbered.{has-contains}
use Rattle.checker_state.specs.Holds.{Moment, component_at, moment, part_of, value_at}
use Rattle.checker_state.specs.Stores.{Index, Reach, entire, is_entire, is_entire_by}
use Rattle.checker_loops.specs.Sections.{BlockClaims}
use Rattle.checker_loops.proofs.VariableRows.{first-behind_fields, one-way}
use Rattle.checker_calls.specs.Actuals.{Actual, Bearer, OfRows, OfValue, OfVariable, Passed, Reached, all_of_rows, bearers_of}
use Rattle.checker_calls.proofs.Borne.{lies-at}
use Rattle.checker_calls.proofs.Callee.{activation_of}
use Rattle.checker_calls.proofs.CallChanges.{HasLeft}
use Rattle.checker_calls.proofs.FormalRows.{LiesBy, actual-row, same-value}
use Rattle.checker_calls.proofs.Origins.{rows-same}
use Rattle.checker_calls.proofs.Parameters.{IsOuter, IsParameter, parameter-block}
use Rattle.checker_calls.proofs.Passed.{Fits, IsArgument}
use Rattle.checker_calls.proofs.Reached.{indexes-behind_fields}

no-index : (is_all : Bool) (indexes : List Index) → is_entire_by is_all indexes ≡ true → indexes ≡ []
no-index is_all [] is = refl
no-index is_all (index ∷ indexes) is = absurd (false≢true is)

module _ (tree : Tree) (pairs : List (ℕ × ℕ)) (number : ℕ) (block : Block) (arguments : List Argument) (caller : Environment) (activations from : ℕ)
    (store : Store) (actuals : List Actual) (claims : BlockClaims) (after : Store)
    (back : HasLeft tree pairs number block arguments caller activations from store actuals claims after) where
  abbrev callee : Environment
  callee = environment_of tree (activation_of number block arguments caller activations)

  -- where the callee ended, and where the caller goes on
  abbrev inner : Moment
  inner = moment callee after

  abbrev outer : Moment
  outer = moment caller after

  abbrev IsOuterHere : ℕ → DeclaredVariable → Type 0
  IsOuterHere root variable = IsOuter tree pairs number block arguments caller activations from back.call store actuals back.are root variable

  abbrev ParameterHere : ℕ → DeclaredVariable → Type 0
  ParameterHere root variable = IsParameter tree caller store activations block.heading.parameters.items actuals arguments root variable

  abbrev pub Lies : ℕ → DeclaredVariable → Origin → List Selector → Reach → Type 0
  Lies root variable origin selectors reach = LiesBy tree caller callee store root origin selectors reach variable.type_id

  -- where a variable parameter lies
  pub passed-lies : (root : ℕ) (variable : DeclaredVariable) → slice_get tree.variables.items root ≡ Some variable → ParameterHere root variable
      → (origin : Origin) (selectors : List Selector) (reach : Reach) (place : Place)
      → place_for root block.heading.parameters.items arguments ≡ Some place
      → IsArgument tree caller store variable (OfVariable origin selectors reach) (meaning.OfPlace (Some place))
      → Fits tree activations (meaning.OfPlace (Some place)) variable → Lies root variable origin selectors reach
  passed-lies root variable is p origin selectors reach place found known fits =
      lies-at tree pairs number block arguments caller activations from back.call store back.begun actuals back.are root variable is fits.0
      (parameter-block tree pairs number block arguments caller activations from back.call store actuals back.are root variable is p) place found
      origin selectors reach known

  pub outer-same : (root : ℕ) (variable : DeclaredVariable) → IsOuterHere root variable → (steps : List Step)
      → value_at inner root steps ≡ value_at outer root steps
  outer-same root variable here steps = ap (λ (found : Option Place). part_of after found steps) here.same

  -- ---- rows

  -- a component of a row of the caller's is one of a row of the callee's
  pub record IsSame (row own : ℕ) (steps : List Step) : Type 0 where
    pub rest : List Step
    pub of_row : IsOf tree row rest
    pub value : component_at (all_parts tree) outer own steps ≡ component_at (all_parts tree) inner row rest
    pub first : first_index steps ≡ first_index rest
    pub all : indexes_of steps ≡ indexes_of rest

  -- what bears a row, if it is all of one, is that row
  abbrev pub Bears : Bearer → ℕ → Type 0
  Bears (Passed range) row = Unit {0}
  Bears (Reached own reach) row = is_entire reach ≡ true → (steps : List Step) → IsOf tree own steps → IsSame row own steps

  -- a row of a variable round the callee's block bears itself
  pub outer-bears : (root : ℕ) (variable : DeclaredVariable) → IsOuterHere root variable → (row : ℕ)
      → (slice_index_or (all_parts tree) row no_parts).root ≡ root → Bears (Reached row entire) row
  outer-bears root variable here row root_is = λ all steps of_row. record {
    rest = steps;
    of_row = of_row;
    value = ap (λ (r : ℕ). value_at outer r steps) root_is ∙ sym (outer-same root variable here steps) ∙ ap (λ (r : ℕ). value_at inner r steps) (sym root_is);
    first = refl;
    all = refl;
  }

  -- a row under what is passed bears the row of the parameter at its place
  passed-bears : (root : ℕ) (variable : DeclaredVariable) (origin : Origin) (selectors : List Selector) (reach : Reach)
      → Lies root variable origin selectors reach → (j row own : ℕ) → slice_get (rows_under tree root []) j ≡ Some row
      → slice_get (rows_accessed tree origin selectors) j ≡ Some own → Bears (Reached own reach) row
  passed-bears root variable origin selectors reach lies j row own row_at at_own = λ entire_is steps of_row.
      let other = root_of origin in
      let all = lies.all in
      let way = lies.way in
      let at = lies.at in
      let rows = rows-are tree (AtVariable other) all variable.type_id at.actual_type in
      let own_at : slice_get (rows_accessed tree (AtVariable other) all) j ≡ Some own =
      ap (λ (list : List ℕ). slice_get list j) (rows-same tree origin selectors all lies.steps_are) ∙ at_own in
      let inside = has-contains (rows_accessed tree (AtVariable other) all) own (j, own_at) in
      let none = lies.reached.none (no-index reach.is_all reach.indexes entire_is) in
      let behind = rows.lies own steps inside of_row in
      let way_is : behind.0 ≡ way = one-way all behind.0 way none behind.3 at.matches in
      let steps_are : steps ≡ way ++ behind.1 = behind.2 ∙ ap (λ (w : List Step). w ++ behind.1) way_is in
      let root_is = (rows-are tree (AtVariable root) [] variable.type_id at.formal_type).root_is row (has-contains (rows_under tree root []) row (j, row_at)) in
      record {
        rest = behind.1;
        of_row = actual-row tree caller callee root other all way variable.type_id at j row own behind.1 row_at own_at
            (subst (λ (s : List Step). IsOf tree own s) steps_are of_row);
        value = ap (λ (r : ℕ). value_at outer r steps) (rows.root_is own inside) ∙ ap (value_at outer other) steps_are
            ∙ sym (same-value tree caller callee root other all way variable.type_id at after behind.1)
            ∙ ap (λ (r : ℕ). value_at inner r behind.1) (sym root_is);
        first = ap first_index steps_are ∙ first-behind_fields all way behind.1 none at.matches;
        all = ap indexes_of steps_are ∙ indexes-behind_fields all way behind.1 none at.matches;
      }

  values-bear : (ranges : List Interval) (j row : ℕ) (bearer : Bearer) → slice_get (map Passed ranges) j ≡ Some bearer → Bears bearer row
  values-bear ranges j row bearer at = let found = mapped-at Passed ranges j bearer at in subst (λ (b : Bearer). Bears b row) found.2 tt

  -- what is passed bears each row of the parameter
  pub parameter-bears : (root : ℕ) (variable : DeclaredVariable) → slice_get tree.variables.items root ≡ Some variable → ParameterHere root variable
      → (actual : Actual) (argument : Argument) → place_for root block.heading.parameters.items arguments ≡ place_passed argument
      → IsArgument tree caller store variable actual argument → Fits tree activations argument variable → (j row : ℕ) (bearer : Bearer)
      → slice_get (rows_under tree root []) j ≡ Some row → slice_get (bearers_of tree actual) j ≡ Some bearer → Bears bearer row
  parameter-bears root variable is p (OfValue range form) argument place_is known fits j row bearer row_at at = values-bear (range ∷ []) j row bearer at
  parameter-bears root variable is p (OfRows ranges) argument place_is known fits j row bearer row_at at = values-bear ranges j row bearer at
  parameter-bears root variable is p (OfVariable origin selectors reach) (meaning.OfValue v) place_is known fits j row bearer row_at at = absurd known
  parameter-bears root variable is p (OfVariable origin selectors reach) (meaning.OfRow values) place_is known fits j row bearer row_at at = absurd known
  parameter-bears root variable is p (OfVariable origin selectors reach) (meaning.OfPlace None) place_is known fits j row bearer row_at at = absurd fits
  parameter-bears root variable is p (OfVariable origin selectors reach) (meaning.OfPlace (Some place)) place_is known fits j row bearer row_at at =
      let lies = passed-lies root variable is p origin selectors reach place place_is known fits in
      let own = mapped-at (λ r. Reached r reach) (rows_accessed tree origin selectors) j bearer at in
      subst (λ (b : Bearer). Bears b row) own.2 (passed-bears root variable origin selectors reach lies j row own.0 row_at own.1)

  -- where all rows of a variable round the block are changed
  pub rows-bear : (root : ℕ) (variable : DeclaredVariable) → IsOuterHere root variable → (rows : List ℕ)
      → ((row : ℕ) → Contains rows row → (slice_index_or (all_parts tree) row no_parts).root ≡ root) → (j row : ℕ) (bearer : Bearer)
      → slice_get rows j ≡ Some row → slice_get (all_of_rows rows) j ≡ Some bearer → Bears bearer row
  rows-bear root variable here rows roots j row bearer row_at at =
      let own = mapped-at (λ r. Reached r entire) rows j bearer at in
      let same : own.0 ≡ row = same_Some own.0 row (sym own.1 ∙ row_at) in
      subst (λ (b : Bearer). Bears b row) (ap (λ (r : ℕ). Reached r entire) (sym same) ∙ own.2)
      (outer-bears root variable here row (roots row (has-contains rows row (j, row_at))))
