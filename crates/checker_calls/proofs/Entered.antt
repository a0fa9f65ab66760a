-- Where an activation begins: its value parameters lie in it, its variable parameters where their actual ones do; behind the assignments each value still
-- lies among those of the type of its place, in an activation that has begun.
use Rattle.std.proofs.Common.{arith, ◌≡◌, ◌∙◌, sym, ap, refl, subst, ℕ, zero, suc, ◌+◌, ◌<◌, Bool, true, false, cond}
use Rattle.std.proofs.Common.{◌&&◌, nat_eq, List, [], ◌∷◌, ◌++◌, Option, Some, None}
use Rattle.std.specs.List.{Contains}
use Rattle.std.specs.Option.{option_and_then}
use Rattle.std.specs.Prelude.{slice_get}
use Rattle.std.proofs.lemmas.Bool.{and_parts, eq-eqb, eqb-true, false≢true}
use Rattle.std.proofs.lemmas.Option.{same_Some}
use Rattle.types.specs.declared.form.Step.{Step}
use Rattle.types.specs.declared.form.TypeId.{TypeId}
use Rattle.typed_tree.specs.WellFormed.{IsWellFormed, are_all, is_parameter_kind, is_placed, is_result_kind, is_result_or_none, is_value_kind}
use Rattle.typed_tree.specs.WellFormed.{is_one_of, is_variable_kind, outline_of, result_roots, roots_where}
use Rattle.typed_tree.specs.declared.tree.Block.{Block}
use Rattle.typed_tree.specs.declared.tree.Tree.{Tree}
use Rattle.typed_tree.specs.declared.tree.Variable.{Variable}
use Rattle.typed_tree.specs.declared.tree.VariableKind.{VariableKind}
use Rattle.typed_tree.specs.declared.tree.VariableKind.TheVariants as kind
use Rattle.meaning.specs.declared.value.Value.{Value}
use Rattle.meaning.specs.Meaning.{Activation, Argument, environment_of, home_of, own_place, place_for, seen_from}
use Rattle.meaning.specs.Store.{Environment, Place, Store, stored}
use Rattle.checker_calls.specs.Environments.{Begun, LiesIn, Typed, place_type, type_led}
use Rattle.checker_calls.proofs.Assigned.{Distinct, Homes, IsEmpty, all-each, all-older, all-other, all_assigned, own_part}
use Rattle.checker_calls.proofs.Callee.{IsCalled, activation_of}
use Rattle.checker_calls.proofs.Headings.{same-numbers, well-heading}

-- ---- the roots of the parameters

-- the roots of variables of which a test holds are those of such variables
pub roots-are : (test : Variable → Bool) (first : ℕ) (variables : List Variable) (root : ℕ) → Contains (roots_where test first variables) root
    → (k : ℕ) × (variable : Variable) × (root ≡ first + k) × (slice_get variables k ≡ Some variable) × (test variable ≡ true)
roots-are test first [] root inside = absurd (omega (arith, inside.1))
roots-are test first (v ∷ variables) root inside = by (test v) refl inside (λ later. roots-are test (suc first) variables root later)
  where
    more : (k : ℕ) × (variable : Variable) × (root ≡ suc first + k) × (slice_get variables k ≡ Some variable) × (test variable ≡ true)
        → (k : ℕ) × (variable : Variable) × (root ≡ first + k) × (slice_get (v ∷ variables) k ≡ Some variable) × (test variable ≡ true)
    more (k, variable, root_is, is, passes) = (suc k, variable, omega (arith, root_is), is, passes)

    by : (b : Bool) → test v ≡ b → Contains (cond b (first ∷ roots_where test (suc first) variables) (roots_where test (suc first) variables)) root
        → (Contains (roots_where test (suc first) variables) root
        → (k : ℕ) × (variable : Variable) × (root ≡ suc first + k) × (slice_get variables k ≡ Some variable) × (test variable ≡ true))
        → (k : ℕ) × (variable : Variable) × (root ≡ first + k) × (slice_get (v ∷ variables) k ≡ Some variable) × (test variable ≡ true)
    by true passes (zero, within, at) rest = (0, v, omega (arith, at), refl, passes)
    by true passes (suc k, within, at) rest = more (rest (k, omega (arith, within), at))
    by false passes inside rest = more (rest inside)

-- each stands there once
roots-distinct : (test : Variable → Bool) (first : ℕ) (variables : List Variable) → Distinct (roots_where test first variables)
roots-distinct test first [] = tt
roots-distinct test first (v ∷ variables) = by (test v) (roots-distinct test (suc first) variables)
  where
    behind : Contains (roots_where test (suc first) variables) first → ⊥
    behind inside =
        let found = roots-are test (suc first) variables first inside in
        let is = found.2 in
        omega (arith, is)

    by : (b : Bool) → Distinct (roots_where test (suc first) variables)
        → Distinct (cond b (first ∷ roots_where test (suc first) variables) (roots_where test (suc first) variables))
    by true rest = (behind, rest)
    by false rest = rest

module _ (tree : Tree) (well : IsWellFormed tree) (number : ℕ) (block : Block) (block_is : slice_get tree.blocks.items number ≡ Some block) where
  parameter : Variable → Bool
  parameter v = nat_eq v.block number && is_parameter_kind v.kind

  parameters-are : block.heading.parameters.items ≡ roots_where parameter 0 tree.variables.items
  unfolding parameter
  parameters-are =
      let outline = outline_of tree in
      let h = block.heading in
      let one = and_parts (is_placed outline number h)
      (are_all outline number is_parameter_kind h.parameters.items
      && (are_all outline number is_result_kind (result_roots h.result) && is_result_or_none outline h.result))
      (well-heading tree well number block block_is) in
      same-numbers h.parameters.items (roots_where (λ v. nat_eq v.block number && is_parameter_kind v.kind) 0 tree.variables.items)
      (and_parts (are_all outline number is_parameter_kind h.parameters.items) _ one.1).0

  pub parameters-distinct : Distinct block.heading.parameters.items
  parameters-distinct = subst Distinct (sym parameters-are) (roots-distinct parameter 0 tree.variables.items)

  -- a parameter is one that the block declares
  pub parameter-own : (root : ℕ) → Contains block.heading.parameters.items root
      → (variable : Variable) × (slice_get tree.variables.items root ≡ Some variable) × (variable.block ≡ number) × (is_parameter_kind variable.kind ≡ true)
  unfolding parameter
  parameter-own root inside =
      let found = roots-are parameter 0 tree.variables.items root (subst (λ (all : List ℕ). Contains all root) parameters-are inside) in
      let root_is = found.2 in
      let at : found.0 ≡ root = omega (arith, root_is) in
      let parts = and_parts (nat_eq found.1.block number) (is_parameter_kind found.1.kind) found.4 in
      (found.1, ap (slice_get tree.variables.items) (sym at) ∙ found.3, eqb-true found.1.block number parts.0, parts.1)

-- ---- where variables lie

-- a variable of a block's own lies where its kind says
pub own-home : (tree : Tree) (activation : Activation) (root : ℕ) (variable : Variable) → slice_get tree.variables.items root ≡ Some variable
    → variable.block ≡ activation.block → (environment_of tree activation).variables root ≡ home_of activation root variable.kind
own-home tree activation root variable is own =
    ap (seen_from activation root) is
    ∙ ap (λ (b : Bool). cond b (home_of activation root variable.kind)
    (cond (is_one_of activation.heading.around.items variable.block) (activation.caller.variables root) None)) (eq-eqb variable.block activation.block own)

pub own-where : (activation : Activation) (root : ℕ) (one : VariableKind) → is_variable_kind one ≡ false
    → home_of activation root one ≡ Some (own_place activation.number root)
own-where activation root kind.VariableParameter other = absurd (false≢true (sym other))
own-where activation root kind.Local other = refl
own-where activation root kind.ValueParameter other = refl
own-where activation root kind.Result other = refl

pub passed-where : (activation : Activation) (root : ℕ) (one : VariableKind) → is_variable_kind one ≡ true
    → home_of activation root one ≡ place_for root activation.heading.parameters.items activation.arguments
passed-where activation root kind.VariableParameter is = refl
passed-where activation root kind.Local is = absurd (false≢true is)
passed-where activation root kind.ValueParameter is = absurd (false≢true is)
passed-where activation root kind.Result is = absurd (false≢true is)

pub value-not_variable : (one : VariableKind) → is_value_kind one ≡ true → is_variable_kind one ≡ false
value-not_variable kind.ValueParameter is = refl
value-not_variable kind.VariableParameter is = absurd (false≢true is)
value-not_variable kind.Local is = refl
value-not_variable kind.Result is = refl

module _ (tree : Tree) (pairs : List (ℕ × ℕ)) (number : ℕ) (block : Block) (arguments : List Argument) (caller : Environment) (activations from : ℕ)
    (call : IsCalled tree pairs number block arguments caller activations from) where
  abbrev activation : Activation
  activation = activation_of number block arguments caller activations

  abbrev visible : Environment
  visible = environment_of tree activation

  abbrev roots : List ℕ
  roots = block.heading.parameters.items

  -- what is assigned
  abbrev pub behind_assignments : Store → Store
  behind_assignments store = all_assigned tree visible roots arguments store

  pub homes : Homes tree activations activations visible roots
  homes root formal inside is value =
      let own = parameter-own tree call.well number block call.block_is root inside in
      let same : own.0 ≡ formal = same_Some own.0 formal (sym own.1 ∙ is) in
      own-home tree activation root formal is (subst (λ (v : Variable). v.block ≡ number) same own.2)
      ∙ own-where activation root formal.kind (value-not_variable formal.kind value)

  pub distinct : Distinct roots
  distinct = parameters-distinct tree call.well number block call.block_is

  -- what is older is as it was
  pub older-kept : (store : Store) (place : Place) → place.activation < activations → stored (behind_assignments store) place ≡ stored store place
  older-kept store place older =
      all-older tree activations activations visible roots arguments place call.fit homes
      (λ (same : place.activation ≡ activations). omega (arith, older, same))
      store

  -- and so is each variable that the callee's block doesn't declare
  pub outer-kept : (store : Store) (root : ℕ) (place : Place) → caller.variables root ≡ Some place → (steps : List Step)
      → stored (behind_assignments store) (record place { steps = place.steps ++ steps }) ≡ stored store (record place { steps = place.steps ++ steps })
  outer-kept store root place is steps = older-kept store (record place { steps = place.steps ++ steps }) (call.proper.begun root place is)

  -- an activation that begins has no values yet
  pub nothing-begun : (store : Store) → Begun activations store → (root : ℕ) → IsEmpty tree activations activations visible root store
  nothing-begun store begun root rest = by (stored store (own_part tree activations activations visible root rest)) refl
    where
      by : (found : Option Value) → stored store (own_part tree activations activations visible root rest) ≡ found → found ≡ None
      by None is = refl
      by (Some v) is =
          let before = begun (own_part tree activations activations visible root rest) v is in
          absurd (omega (arith, before))

  -- a variable of the block that is no value parameter has none either behind the assignments
  pub own-undefined : (store : Store) → Begun activations store → (root : ℕ) (variable : Variable) → slice_get tree.variables.items root ≡ Some variable
      → is_value_kind variable.kind ≡ false → (rest : List Step)
      → stored (behind_assignments store) (own_part tree activations activations visible root rest) ≡ None
  own-undefined store begun root variable is other rest =
      all-other tree activations activations visible roots arguments (own_part tree activations activations visible root rest) call.fit homes
      (λ one formal inside formal_is value here at.
      let same : variable ≡ formal = same_Some variable formal (sym is ∙ ap (slice_get tree.variables.items) at ∙ formal_is) in
      false≢true (sym (subst (λ (v : Variable). is_value_kind v.kind ≡ false) same other) ∙ value))
      store
      ∙ nothing-begun store begun root rest

  -- each value still lies among those of the type of its place
  pub typed-behind : (store : Store) → Typed tree store → Typed tree (behind_assignments store)
  typed-behind store typed =
      all-each tree activations activations visible (λ place v. (id : TypeId) × (place_type tree place ≡ Some id) × LiesIn tree.types id v) roots arguments
      call.fit homes
      (λ root formal v inside is lies. (formal.type_id, ap (option_and_then (λ (x : Variable). Some x.type_id)) is, lies))
      (λ root formal rest own v inside is led lies.
      (own, ap (option_and_then (λ (x : Variable). type_led tree.types rest x.type_id)) is ∙ led, lies)) store typed

  -- in an activation that has begun
  pub begun-behind : (store : Store) → Begun activations store → Begun (suc activations) (behind_assignments store)
  begun-behind store begun =
      all-each tree activations activations visible (λ place v. place.activation < suc activations) roots arguments call.fit homes
      (λ root formal v inside is lies. omega arith) (λ root formal rest own v inside is led lies. omega arith) store
      (λ place v is. let before = begun place v is in omega (arith, before))
