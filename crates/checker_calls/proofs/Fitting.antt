-- What is accessed lies at places of its type, and so does each of its components; a value there is one of that type.
use Rattle.std.proofs.Common.{◌≡◌, ◌∙◌, sym, ap, subst, ℕ, ◌<◌, List, ◌++◌, Some}
use Rattle.std.specs.Option.{option_and_then}
use Rattle.types.specs.declared.form.Step.{Step}
use Rattle.types.specs.declared.form.TypeId.{TypeId}
use Rattle.typed_tree.specs.Accesses.{Origin, AtVariable, accessed, root_of}
use Rattle.typed_tree.specs.declared.tree.Selector.{Selector}
use Rattle.typed_tree.specs.declared.tree.Tree.{Tree}
use Rattle.meaning.specs.declared.value.Value.{Value}
use Rattle.meaning.specs.Store.{Environment, Place, Store}
use Rattle.checker_rows.proofs.Selected.{Matches}
use Rattle.checker_state.specs.Holds.{moment, value_at}
use Rattle.checker_state.specs.Stores.{Reach}
use Rattle.checker_loops.proofs.AliasedStores.{stored-of}
use Rattle.checker_loops.proofs.VariableRows.{variable-accessed}
use Rattle.checker_calls.specs.Environments.{LiesIn, Proper, Typed, place_type, type_led}
use Rattle.checker_calls.proofs.AliasedTypes.{part-type}
use Rattle.checker_state.proofs.Apart.{part}
use Rattle.checker_calls.proofs.Passed.{Leads}
use Rattle.checker_calls.proofs.PlaceTypes.{led-then, way-typed}
use Rattle.checker_calls.proofs.Places.{part-there}

module _ (tree : Tree) (pairs : List (ℕ × ℕ)) (block activations : ℕ) (env : Environment) (proper : Proper tree pairs block activations env)
    (root : ℕ) (selectors : List Selector) (id : TypeId) (typed : accessed tree.variables.items tree.types (AtVariable root) selectors ≡ Some id) where
  -- each part of what is accessed lies at a place of the type to which its steps lead
  pub part-accessed : (home : Place) → env.variables root ≡ Some home → (way rest : List Step) → Matches selectors way
      → place_type tree (part home (way ++ rest)) ≡ type_led tree.types rest id
  part-accessed home at way rest matches =
      let variable = variable-accessed tree root selectors id typed in
      part-type tree pairs block activations env proper root home variable.0 (way ++ rest) at variable.1
      ∙ led-then tree.types way rest variable.0.type_id
      ∙ ap (option_and_then (type_led tree.types rest)) (way-typed tree.types selectors way variable.0.type_id id variable.2 matches)

  -- the value of one is of that type
  pub part-lies : (store : Store) → Typed tree store → (way rest : List Step) → Matches selectors way → (v : Value)
      → value_at (moment env store) root (way ++ rest) ≡ Some v → (own : TypeId) × (type_led tree.types rest id ≡ Some own) × LiesIn tree.types own v
  part-lies store all way rest matches v is =
      let at = stored-of store (env.variables root) (way ++ rest) v is in
      let own = all (part at.0 (way ++ rest)) v at.2 in
      (own.0, sym (part-accessed at.0 at.1 way rest matches) ∙ own.1, own.2)

module _ (tree : Tree) (pairs : List (ℕ × ℕ)) (block activations : ℕ) (env : Environment) (proper : Proper tree pairs block activations env)
    (origin : Origin) (selectors : List Selector) (id : TypeId) where
  -- a variable that is passed lies at a place of its type, in an activation that has begun
  pub place-fits : (store : Store) (reach : Reach) (place : Place) → (leads : Leads env origin selectors store reach (Some place))
      → accessed tree.variables.items tree.types (AtVariable (root_of origin)) leads.all ≡ Some id
      → (place_type tree place ≡ Some id) × (place.activation < activations)
  place-fits store reach place leads typed =
      let root = root_of origin in
      let variable = variable-accessed tree root leads.all id typed in
      let there = part-there (env.variables root) leads.way place (sym leads.place_is) in
      let way = way-typed tree.types leads.all leads.way variable.0.type_id id variable.2 leads.matches in (
        ap (place_type tree) (sym there.2) ∙ part-type tree pairs block activations env proper root there.0 variable.0 leads.way there.1 variable.1 ∙ way,
        subst (λ (p : Place). p.activation < activations) there.2 (proper.begun root there.0 there.1),
      )
