-- The types of what lies in a variable, and which values are of a type of which kind.
use Rattle.std.proofs.Common.{◌≡◌, ℕ, true, ◌&&◌, List, [], ◌∷◌, ◌++◌, map, Option, Some, None, is_some, nat_eq, slice_get}
use Rattle.std.proofs.Common.{refl, ap, ◌∙◌}
use Rattle.std.specs.Option.{option_and_then, option_map}
use Rattle.std.specs.Cmp.Lexicographic.{pointwise}
use Rattle.std.proofs.lemmas.Bool.{and_parts, eqb-true, false≢true}
use Rattle.std.proofs.lemmas.Option.{cond_some, none-some}
use Rattle.types.specs.declared.form.ArrayElement.{ArrayElement}
use Rattle.types.specs.declared.form.RecordField.{RecordField}
use Rattle.types.specs.declared.form.Step.{Step}
use Rattle.types.specs.declared.form.Step.TheVariants as step
use Rattle.types.specs.declared.form.TypeId.{TypeId}
use Rattle.types.specs.declared.form.TypeKind.{TypeKind}
use Rattle.types.specs.declared.form.TypeKind.TheVariants as kind
use Rattle.types.specs.Forms.{Form}
use Rattle.types.specs.Types.{element_of, field_at, is_ordinal, kind_of, kind_range, form_at, form_kind}
use Rattle.typed_tree.specs.declared.tree.PathStep.{PathStep}
use Rattle.typed_tree.specs.declared.tree.PathStep.TheVariants as path
use Rattle.typed_tree.specs.declared.tree.Scalar.{Scalar}
use Rattle.typed_tree.specs.declared.tree.Scalar.TheVariants as scalar
use Rattle.typed_tree.specs.declared.tree.Selector.{Selector}
use Rattle.typed_tree.specs.declared.tree.Selector.TheVariants.{Element, Field}
use Rattle.typed_tree.specs.declared.tree.Variable.{Variable}
use Rattle.typed_tree.specs.Accesses as tree
use Rattle.typed_tree.specs.Accesses.{Origin, AtVariable, AtRecord, lying, led, root_of, step_of, stepped, steps_of}
use Rattle.typed_tree.specs.Kinds.{Held, is_held, is_same as is_same_scalar}
use Rattle.typed_tree.specs.WellFormed.{Outline, is_held_by}
use Rattle.meaning.specs.Kinds.{type_at, type_of, type_on, way_of, way_step}
use Rattle.meaning.specs.Store.{Place, place_eq, step_eq}

-- ---- ways

pub way-more : (first more : List Step) → way_of (first ++ more) ≡ way_of first ++ way_of more
way-more [] more = refl
way-more (s ∷ first) more = ap (λ (way : List PathStep). way_step s ∷ way) (way-more first more)

pub lying-more : (types : List Form) (way more : List PathStep) (id : TypeId)
    → lying types (way ++ more) id ≡ option_and_then (lying types more) (lying types way id)
lying-more types [] more id = refl
lying-more types (s ∷ way) more id = by (lying-more types way more) (stepped types s id)
  where
    by : ((next : TypeId) → lying types (way ++ more) next ≡ option_and_then (lying types more) (lying types way next)) → (next : Option TypeId)
        → option_and_then (lying types (way ++ more)) next ≡ option_and_then (lying types more) (option_and_then (lying types way) next)
    by further None = refl
    by further (Some next) = further next

-- the type of what lies further on a way
pub type-further : (outline : Outline) (root : ℕ) (way more : List PathStep)
    → type_on outline root (way ++ more) ≡ option_and_then (lying outline.types more) (type_on outline root way)
type-further outline root way more = by (type_of outline root)
  where
    by : (id : Option TypeId)
        → option_and_then (lying outline.types (way ++ more)) id ≡ option_and_then (lying outline.types more) (option_and_then (lying outline.types way) id)
    by None = refl
    by (Some id) = lying-more outline.types way more id

pub type-here : (outline : Outline) (root : ℕ) → type_on outline root [] ≡ type_of outline root
type-here outline root = by (type_of outline root)
  where
    by : (id : Option TypeId) → option_and_then (lying outline.types []) id ≡ id
    by None = refl
    by (Some id) = refl

-- a step leads to the type to which its selector does
selected-steps : (types : List Form) (selector : Selector) (id next : TypeId) → tree.selected types selector id ≡ Some next
    → stepped types (step_of selector) id ≡ Some next
selected-steps types (Element fits cells) id next is = by (element_of types id) is
  where
    by : (element : Option ArrayElement) → tree.element_type fits.range cells element ≡ Some next
        → option_map (λ (one : ArrayElement). one.type_id) element ≡ Some next
    by None is = absurd (none-some next is)
    by (Some element) is =
        ap Some (cond_some (tree.are_values_of fits.range element.range && nat_eq cells element.cells) element.type_id next is).1
selected-steps types (Field position offset) id next is = by (field_at types id position) is
  where
    by : (field : Option RecordField) → tree.field_type offset field ≡ Some next → option_map (λ (one : RecordField). one.type_id) field ≡ Some next
    by None is = absurd (none-some next is)
    by (Some field) is = ap Some (cond_some (nat_eq offset field.offset) field.type_id next is).1

led-lies : (types : List Form) (selectors : List Selector) (id found : TypeId) → led types selectors id ≡ Some found
    → lying types (map step_of selectors) id ≡ Some found
led-lies types [] id found is = is
led-lies types (selector ∷ selectors) id found is =
    by (λ next. led-lies types selectors next found) (tree.selected types selector id) refl is
  where
    by : ((next : TypeId) → led types selectors next ≡ Some found → lying types (map step_of selectors) next ≡ Some found) → (next : Option TypeId)
        → tree.selected types selector id ≡ next → option_and_then (led types selectors) next ≡ Some found
        → option_and_then (lying types (map step_of selectors)) (stepped types (step_of selector) id) ≡ Some found
    by further None leads is = absurd (none-some found is)
    by further (Some next) leads is =
        ap (option_and_then (lying types (map step_of selectors))) (selected-steps types selector id next leads) ∙ further next is

-- the type of what an access accesses is that of what lies there
pub accessed-type : (outline : Outline) (origin : Origin) (selectors : List Selector) (found : TypeId)
    → tree.accessed outline.variables outline.types origin selectors ≡ Some found
    → type_on outline (root_of origin) (steps_of origin ++ map step_of selectors) ≡ Some found
accessed-type outline (AtVariable root) selectors found is = by (slice_get outline.variables root) is
  where
    by : (variable : Option Variable) → option_and_then (λ (one : Variable). led outline.types selectors one.type_id) variable ≡ Some found
        → option_and_then (lying outline.types (map step_of selectors)) (option_map (λ (one : Variable). one.type_id) variable) ≡ Some found
    by None is = absurd (none-some found is)
    by (Some variable) is = led-lies outline.types selectors variable.type_id found is
accessed-type outline (AtRecord root slot steps) selectors found is =
    type-further outline root steps (map step_of selectors) ∙ by (slice_get outline.variables root) is
  where
    on : (id : Option TypeId) → option_and_then (led outline.types selectors) id ≡ Some found
        → option_and_then (lying outline.types (map step_of selectors)) id ≡ Some found
    on None is = absurd (none-some found is)
    on (Some id) is = led-lies outline.types selectors id found is

    by : (variable : Option Variable)
        → option_and_then (λ (one : Variable). option_and_then (led outline.types selectors) (lying outline.types steps one.type_id)) variable ≡ Some found
        → option_and_then (lying outline.types (map step_of selectors))
        (option_and_then (lying outline.types steps) (option_map (λ (one : Variable). one.type_id) variable))
        ≡ Some found
    by None is = absurd (none-some found is)
    by (Some variable) is = on (lying outline.types steps variable.type_id) is

-- ---- places

-- the type of a part of a place
pub type-part : (outline : Outline) (place : Place) (steps : List Step)
    → type_at outline (record place { steps = place.steps ++ steps }) ≡ option_and_then (lying outline.types (way_of steps)) (type_at outline place)
type-part outline place steps =
    ap (type_on outline place.variable) (way-more place.steps steps) ∙ type-further outline place.variable (way_of place.steps) (way_of steps)

same-way : (s t : Step) → step_eq s t ≡ true → way_step s ≡ way_step t
same-way (step.Element i) (step.Element j) same = refl
same-way (step.Field a) (step.Field b) same = ap path.Field (eqb-true a b same)
same-way (step.Element i) (step.Field b) same = absurd (false≢true same)
same-way (step.Field a) (step.Element j) same = absurd (false≢true same)

same-ways : (first second : List Step) → pointwise step_eq first second ≡ true → way_of first ≡ way_of second
same-ways [] [] same = refl
same-ways [] (t ∷ second) same = absurd (false≢true same)
same-ways (s ∷ first) [] same = absurd (false≢true same)
same-ways (s ∷ first) (t ∷ second) same =
    let parts = and_parts (step_eq s t) (pointwise step_eq first second) same in
    ap (λ (one : PathStep). one ∷ way_of first) (same-way s t parts.0) ∙ ap (λ (way : List PathStep). way_step t ∷ way) (same-ways first second parts.1)

-- the same place has the same type
pub same-type : (outline : Outline) (p q : Place) → place_eq p q ≡ true → type_at outline p ≡ type_at outline q
same-type outline p q same =
    let one = and_parts (nat_eq p.activation q.activation) (nat_eq p.variable q.variable && pointwise step_eq p.steps q.steps) same in
    let two = and_parts (nat_eq p.variable q.variable) (pointwise step_eq p.steps q.steps) one.1 in
    ap (λ root. type_on outline root (way_of p.steps)) (eqb-true p.variable q.variable two.0)
    ∙ ap (type_on outline q.variable) (same-ways p.steps q.steps two.1)

-- ---- kinds

-- an ordinal type is one of that kind
pub ordinal-kind : (types : List Form) (id : TypeId) → is_ordinal types id ≡ true → is_held_by scalar.Ordinal (kind_of types id) ≡ true
ordinal-kind types id is = by (form_at types id) is
  where
    of_kind : (own : TypeKind) → is_some (kind_range own) ≡ true → is_held_by scalar.Ordinal (Some own) ≡ true
    of_kind (kind.Ordinal range) is = refl
    of_kind (kind.Set base members) is = absurd (false≢true is)
    of_kind kind.Structured is = absurd (false≢true is)

    by : (form : Option Form) → is_some (option_and_then (λ (one : Form). kind_range (form_kind one)) form) ≡ true
        → is_held_by scalar.Ordinal (option_map form_kind form) ≡ true
    by None is = absurd (false≢true is)
    by (Some form) is = of_kind (form_kind form) is

-- ---- what an expression is

same-scalar : (wanted held : Scalar) → is_same_scalar wanted held ≡ true → held ≡ wanted
same-scalar scalar.Ordinal scalar.Ordinal is = refl
same-scalar scalar.Ordinal scalar.Set is = absurd (false≢true is)
same-scalar scalar.Set scalar.Ordinal is = absurd (false≢true is)
same-scalar scalar.Set scalar.Set is = refl

pub held-is : (wanted : Scalar) (held : Held) → is_held wanted held ≡ true → held ≡ Some wanted
held-is wanted None is = absurd (false≢true is)
held-is wanted (Some held) is = ap Some (same-scalar wanted held is)
