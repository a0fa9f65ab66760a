-- Places that are told apart: by their activations, their variables, and the steps to their components.
use Rattle.code_generator.proofs.Words.{◌≡◌, ℕ, List, refl, ap, true, false, eq-eqb, nat_eq, ◌&&◌, eqb-true, and_parts, false≢true, Place}
use Rattle.std.proofs.Common.{ℤ}
use Rattle.std.specs.Bool.{Decides}
use Rattle.std.specs.Cmp.Lexicographic.{pointwise}
use Rattle.std.proofs.lemmas.Bool.{and_from, false_from_ne_true}
use Rattle.std.proofs.lemmas.Bool.Decides.{Decides-int_eq}
use Rattle.std.proofs.lemmas.Slice.Eq.{slice_eq-Decides}
use Rattle.types.specs.declared.form.Step.{Step}
use Rattle.types.specs.declared.form.Step.TheVariants.{Element, Field}
use Rattle.types.specs.Components.{Steps}
use Rattle.typed_tree.specs.declared.tree.PathStep.{PathStep}
use Rattle.typed_tree.specs.declared.tree.PathStep.TheVariants as path
use Rattle.typed_tree.specs.Records.{is_same_step}
use Rattle.meaning.specs.Store.{step_eq, place_eq}

step_decided : (s t : Step) → Decides (step_eq s t) (s ≡ t)
step_decided (Element i) (Element j) =
    (λ e. ap Element ((Decides-int_eq i j).0 e), λ e. (Decides-int_eq i j).1 (ap (λ s. elim s as (λ _. ℤ) [ Element n ↦ n | Field n ↦ i ]) e))
step_decided (Field a) (Field b) =
    (λ e. ap Field (eqb-true a b e), λ e. eq-eqb a b (ap (λ s. elim s as (λ _. ℕ) [ Element n ↦ a | Field n ↦ n ]) e))
step_decided (Element i) (Field b) = (λ e. absurd (false≢true e), λ e. cc)
step_decided (Field a) (Element j) = (λ e. absurd (false≢true e), λ e. cc)

same_steps : (p q : Steps) → Decides (pointwise step_eq p q) (p ≡ q)
same_steps p q = slice_eq-Decides step_decided p q (pointwise step_eq p q) refl

pub place_same : (p q : Place) → p.activation ≡ q.activation → p.variable ≡ q.variable → p.steps ≡ q.steps → place_eq p q ≡ true
place_same p q a v s =
    and_from (nat_eq p.activation q.activation) (nat_eq p.variable q.variable && pointwise step_eq p.steps q.steps) (eq-eqb p.activation q.activation a)
    (and_from (nat_eq p.variable q.variable) (pointwise step_eq p.steps q.steps) (eq-eqb p.variable q.variable v) ((same_steps p.steps q.steps).1 s))

pub place_other : (p q : Place) → ((p.variable ≡ q.variable) → (p.steps ≡ q.steps) → ⊥) → place_eq p q ≡ false
place_other p q differ =
    false_from_ne_true (place_eq p q)
    (λ e.
    let inside = (and_parts (nat_eq p.activation q.activation) (nat_eq p.variable q.variable && pointwise step_eq p.steps q.steps) e).1 in
    let parts = and_parts (nat_eq p.variable q.variable) (pointwise step_eq p.steps q.steps) inside in
    differ (eqb-true p.variable q.variable parts.0) ((same_steps p.steps q.steps).0 parts.1))

-- those of two activations
pub place_apart : (p q : Place) → (p.activation ≡ q.activation → ⊥) → place_eq p q ≡ false
place_apart p q differ =
    false_from_ne_true (place_eq p q)
    (λ e. differ (eqb-true p.activation q.activation
    (and_parts (nat_eq p.activation q.activation) (nat_eq p.variable q.variable && pointwise step_eq p.steps q.steps) e).0))

-- ways that are told as the same
step_is : (s t : PathStep) → Decides (is_same_step s t) (s ≡ t)
step_is path.Element path.Element = (λ e. refl, λ e. refl)
step_is path.Element (path.Field b) = (λ e. absurd (false≢true e), λ e. cc)
step_is (path.Field a) path.Element = (λ e. absurd (false≢true e), λ e. cc)
step_is (path.Field a) (path.Field b) =
    (λ e. ap path.Field (eqb-true a b e), λ e. eq-eqb a b (ap (λ s. elim s as (λ _. ℕ) [ path.Element ↦ a | path.Field n ↦ n ]) e))

pub way_is : (first second : List PathStep) → pointwise is_same_step first second ≡ true → first ≡ second
way_is first second same = (slice_eq-Decides step_is first second (pointwise is_same_step first second) refl).0 same
