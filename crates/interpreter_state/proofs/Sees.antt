-- What is visible in an activation that begins inside another, as the meaning has it.
use Rattle.std.proofs.Common.{◌≡◌, ℕ, List, [], ◌∷◌, Bool, true, false, Option, Some, None, filter, nat_eq, slice_get, if◌then◌else◌}
use Rattle.std.proofs.Common.{sym, ◌∙◌, ap, refl}
use Rattle.std.proofs.lemmas.Bool.{eqb-true}
use Rattle.std.proofs.Math.Bool.{cond}
use Rattle.typed_tree.specs.declared.tree.Tree.{Tree}
use Rattle.typed_tree.specs.declared.tree.Variable.{Variable as DeclaredVariable}
use Rattle.typed_tree.specs.declared.tree.VariableKind.{VariableKind}
use Rattle.typed_tree.specs.declared.tree.VariableKind.TheVariants as kind
use Rattle.typed_tree.specs.WellFormed.{is_one_of}
use Rattle.meaning.specs.Store.{Place}
use Rattle.meaning.specs.Meaning.{Activation, Argument, environment_of, home_of, place_for, place_passed, seen_from}
use Rattle.interpreter_state.specs.Views.{Visible, declared_in, home_in, pairs_passed, passed_at, place_of}

-- the place that is passed for a formal parameter
passed_for : (root : ℕ) (parameters : List ℕ) (arguments : List Argument) →
    place_for root parameters arguments ≡ passed_at (pairs_passed parameters arguments) root
passed_for root [] arguments = refl
passed_for root (parameter ∷ parameters) [] = refl
passed_for root (parameter ∷ parameters) (argument ∷ arguments) =
    ap (λ (later : Option Place). if nat_eq parameter root then place_passed argument else later) (passed_for root parameters arguments)

-- an activation that begins, as it is seen
abbrev pub own_of : Activation → Visible
own_of activation = record {
  block = activation.block;
  number = activation.number;
  references = pairs_passed activation.heading.parameters.items activation.arguments;
}

home_seen : (activation : Activation) (root : ℕ) (one : VariableKind) → home_of activation root one ≡ home_in (own_of activation) root one
home_seen activation root kind.VariableParameter = passed_for root activation.heading.parameters.items activation.arguments
home_seen activation root kind.Local = refl
home_seen activation root kind.ValueParameter = refl
home_seen activation root kind.Result = refl

-- one that is kept, or not
first_kept : (kept : Bool) (seen : Visible) (rest : List Visible) (root : ℕ) (variable : DeclaredVariable) →
    declared_in (cond kept (seen ∷ rest) rest) root variable ≡
    (if kept then declared_in (seen ∷ rest) root variable else declared_in rest root variable)
first_kept true seen rest root variable = refl
first_kept false seen rest root variable = refl

choice : (kept same is_round : Bool) (home later left : Option Place) → (same ≡ true → kept ≡ is_round) →
    left ≡ (if is_round then later else None) →
    (if kept then (if same then home else left) else left) ≡ (if is_round then (if same then home else later) else None)
choice true true true home later left alike is = refl
choice true true false home later left alike is = let e : true ≡ false = alike refl in let no : ⊥ = cc in absurd no
choice false true true home later left alike is = let e : false ≡ true = alike refl in let no : ⊥ = cc in absurd no
choice false true false home later left alike is = is
choice true false true home later left alike is = is
choice true false false home later left alike is = is
choice false false true home later left alike is = is
choice false false false home later left alike is = is

absent : (b : Bool) (place : Option Place) → place ≡ None → place ≡ (if b then place else None)
absent true place is = refl
absent false place is = is

-- of those whose blocks stand round, one is found where it was before
found_round : (around : List ℕ) (visible : List Visible) (root : ℕ) (variable : DeclaredVariable) →
    declared_in (filter (λ (seen : Visible). is_one_of around seen.block) visible) root variable ≡
    (if is_one_of around variable.block then declared_in visible root variable else None)
found_round around [] root variable = absent (is_one_of around variable.block) None refl
found_round around (seen ∷ visible) root variable =
    first_kept (is_one_of around seen.block) seen (filter (λ (one : Visible). is_one_of around one.block) visible) root variable
    ∙ choice (is_one_of around seen.block) (nat_eq variable.block seen.block) (is_one_of around variable.block) (home_in seen root variable.kind)
    (declared_in visible root variable) _ (λ same. ap (is_one_of around) (sym (eqb-true variable.block seen.block same)))
    (found_round around visible root variable)

seen_inner : (activation : Activation) (visible : List Visible) (root : ℕ) (variable : Option DeclaredVariable) →
    activation.caller.variables root ≡ place_of visible root variable → seen_from activation root variable ≡
    place_of (own_of activation ∷ filter (λ (seen : Visible). is_one_of activation.heading.around.items seen.block) visible) root variable
seen_inner activation visible root None is = refl
seen_inner activation visible root (Some variable) is =
    ap (λ (home : Option Place). if nat_eq variable.block activation.block then home
    else (if is_one_of activation.heading.around.items variable.block then activation.caller.variables root else None))
    (home_seen activation root variable.kind)
    ∙ ap (λ (later : Option Place). if nat_eq variable.block activation.block then home_in (own_of activation) root variable.kind else later)
    (ap (λ (place : Option Place). if is_one_of activation.heading.around.items variable.block then place else None) is
    ∙ sym (found_round activation.heading.around.items visible root variable))

-- what is visible in an activation lies where the meaning has it, if that was so where it was called
pub sees_inner : (tree : Tree) (activation : Activation) (visible begun : List Visible) →
    ((root : ℕ) → activation.caller.variables root ≡ place_of visible root (slice_get tree.variables.items root)) →
    begun ≡ own_of activation ∷ filter (λ (seen : Visible). is_one_of activation.heading.around.items seen.block) visible →
    (root : ℕ) → (environment_of tree activation).variables root ≡ place_of begun root (slice_get tree.variables.items root)
sees_inner tree activation visible begun sees is root =
    seen_inner activation visible root (slice_get tree.variables.items root) (sees root)
    ∙ ap (λ (l : List Visible). place_of l root (slice_get tree.variables.items root)) (sym is)

-- where nothing is visible nothing is found
pub nowhere : (root : ℕ) (variable : Option DeclaredVariable) → None ≡ place_of [] root variable
nowhere root None = refl
nowhere root (Some variable) = refl
