-- A variable parameter and its actual one: the components of the one are those of the other, row by row.
use Rattle.std.proofs.Common.{arith, ◌≡◌, ◌∙◌, sym, ap, refl, subst, ℕ, List, [], ◌++◌, append_assoc, length, map, Option, Some, None}
use Rattle.std.specs.List.{Contains}
use Rattle.std.specs.Prelude.{slice_get}
use Rattle.std.proofs.lemmas.Option.{slice_get_within}
use Rattle.types.specs.Components.{components_of}
use Rattle.types.specs.declared.form.Step.{Step}
use Rattle.types.specs.declared.form.TypeId.{TypeId}
use Rattle.typed_tree.specs.Accesses.{Origin, AtVariable, accessed, root_of, step_of}
use Rattle.typed_tree.specs.declared.tree.Selector.{Selector}
use Rattle.typed_tree.specs.declared.tree.Tree.{Tree}
use Rattle.meaning.specs.Store.{Environment, Place, Store, part, stored}
use Rattle.checker_rows.specs.Rows.{rows_accessed, rows_under}
use Rattle.checker_rows.proofs.Accessed.{IsOf, row-leaf, rows-are, rows-count}
use Rattle.checker_rows.proofs.Numbered.{has-contains}
use Rattle.checker_rows.proofs.Selected.{Matches}
use Rattle.checker_state.specs.Holds.{moment, part_of, value_at}
use Rattle.checker_loops.proofs.Lists.{some-there}
use Rattle.checker_loops.proofs.VariableRows.{same-rest, row-component}
use Rattle.checker_state.specs.Stores.{Reach}
use Rattle.checker_calls.specs.Actuals.{way_accessed}
use Rattle.checker_calls.proofs.Passed.{IsReachedBy}

-- a formal parameter of a type lies where selectors from a variable lead on a way
pub record LiesAt (tree : Tree) (env callee : Environment) (formal root : ℕ) (selectors : List Selector) (way : List Step) (id : TypeId) : Type 0 where
  pub formal_type : accessed tree.variables.items tree.types (AtVariable formal) [] ≡ Some id
  pub actual_type : accessed tree.variables.items tree.types (AtVariable root) selectors ≡ Some id
  pub place_is : callee.variables formal ≡ part (env.variables root) way
  pub matches : Matches selectors way

-- it lies where an access leads, by all selectors from the variable, and is reached as the walk tells
pub record LiesBy (tree : Tree) (env callee : Environment) (store : Store) (formal : ℕ) (origin : Origin) (selectors : List Selector) (reach : Reach)
    (id : TypeId) : Type 0 where
  pub all : List Selector
  pub steps_are : map step_of all ≡ way_accessed origin selectors
  pub way : List Step
  pub at : LiesAt tree env callee formal (root_of origin) all way id
  pub reached : IsReachedBy env store all way reach

of-part : (store : Store) (place : Option Place) (way steps : List Step) → part_of store (part place way) steps ≡ part_of store place (way ++ steps)
of-part store None way steps = refl
of-part store (Some place) way steps = ap (λ (s : List Step). stored store (record place { steps = s })) (append_assoc place.steps way steps)

module _ (tree : Tree) (env callee : Environment) (formal root : ℕ) (selectors : List Selector) (way : List Step) (id : TypeId)
    (at : LiesAt tree env callee formal root selectors way id) where
  abbrev own_rows : List ℕ
  own_rows = rows_under tree formal []

  abbrev actual_rows : List ℕ
  actual_rows = rows_accessed tree (AtVariable root) selectors

  pub same-value : (store : Store) (steps : List Step) → value_at (moment callee store) formal steps ≡ value_at (moment env store) root (way ++ steps)
  same-value store steps = ap (λ (place : Option Place). part_of store place steps) at.place_is ∙ of-part store (env.variables root) way steps

  -- the component of a row of the formal parameter is one of the row that stands at the same place under the actual one
  pub formal-row : (j row own : ℕ) (steps : List Step) → slice_get own_rows j ≡ Some row → slice_get actual_rows j ≡ Some own → IsOf tree row steps
      → IsOf tree own (way ++ steps)
  formal-row j row own steps row_at own_at of_row =
      let leaf = row-leaf tree (AtVariable formal) [] id at.formal_type [] steps j row tt row_at of_row in
      (rows-are tree (AtVariable root) selectors id at.actual_type).placed way steps j own leaf.0 at.matches
      (row-component tree formal row steps id at.formal_type (has-contains own_rows row (j, row_at)) of_row) leaf.1 leaf.2 own_at

  -- and the other way round
  pub actual-row : (j row own : ℕ) (steps : List Step) → slice_get own_rows j ≡ Some row → slice_get actual_rows j ≡ Some own → IsOf tree own (way ++ steps)
      → IsOf tree row steps
  actual-row j row own steps row_at own_at of_row =
      let lies = (rows-are tree (AtVariable root) selectors id at.actual_type).lies own (way ++ steps) (has-contains actual_rows own (j, own_at)) of_row in
      let rest : lies.1 ≡ steps = sym (same-rest selectors way lies.0 steps lies.1 at.matches lies.3 lies.2) in
      let leaf = row-leaf tree (AtVariable root) selectors id at.actual_type way steps j own at.matches own_at of_row in
      (rows-are tree (AtVariable formal) [] id at.formal_type).placed [] steps j row leaf.0 tt
      (subst (Contains (components_of tree.types id)) rest lies.4) leaf.1 leaf.2 row_at

  -- there are as many
  pub rows-alike : length own_rows ≡ length actual_rows
  rows-alike = rows-count tree (AtVariable formal) [] id at.formal_type ∙ sym (rows-count tree (AtVariable root) selectors id at.actual_type)

  pub actual-of_row : (j row : ℕ) → slice_get own_rows j ≡ Some row → (own : ℕ) × (slice_get actual_rows j ≡ Some own)
  actual-of_row j row row_at =
      let within = slice_get_within own_rows j row row_at in
      some-there actual_rows j (omega (arith, rows-alike, within))
