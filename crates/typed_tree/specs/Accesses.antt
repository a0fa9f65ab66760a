-- Variable accesses (ISO 7185:1990, 6.5.1, 6.5.3, 6.8.3.10): where one begins, and the type of the component to which
-- its selectors lead, if they are ones that its types have. It says nothing of what is accessed in a run.
use Rattle.std.specs.Prelude.{ℕ, suc, ◌&&◌, Bool, false, List, [], ◌∷◌, Option, Some, None, if◌then◌else◌, nat_eq}
use Rattle.std.specs.Prelude.{slice_get}
use Rattle.std.specs.Option.{option_and_then, option_map}
use Rattle.std.specs.Ordering.{int_eq}
use Rattle.types.specs.Forms.{Form}
use Rattle.types.specs.declared.form.TypeId.{TypeId}
use Rattle.types.specs.declared.form.OrdinalRange.{OrdinalRange}
use Rattle.types.specs.declared.form.RecordField.{RecordField}
use Rattle.types.specs.declared.form.ArrayElement.{ArrayElement}
use Rattle.types.specs.Types.{element_of, field_at}
use Rattle.typed_tree.specs.declared.tree.Access.{Access}
use Rattle.typed_tree.specs.declared.tree.Base.{Base}
use Rattle.typed_tree.specs.declared.tree.Base.TheVariants as base
use Rattle.typed_tree.specs.declared.tree.PathStep.{PathStep}
use Rattle.typed_tree.specs.declared.tree.PathStep.TheVariants as path
use Rattle.typed_tree.specs.declared.tree.Selector.{Selector}
use Rattle.typed_tree.specs.declared.tree.Selector.TheVariants.{Element, Field}
use Rattle.typed_tree.specs.declared.tree.Variable.{Variable}

-- where an access begins: at the variable of a root, or at the record of a slot, which lies on this way in the variable
-- of a root
pub data Origin : Type 0 where
  AtVariable : (root : ℕ) → Origin
  AtRecord : (root slot : ℕ) → (steps : List PathStep) → Origin

abbrev pub origin_by : ℕ → Base → Origin
origin_by root base.Variable = AtVariable root
origin_by root (base.Record slot steps) = AtRecord root slot steps.items

abbrev pub origin_of : Access → Origin
origin_of access = origin_by access.root access.base

-- the root of the variable at which an access begins, or in which the record lies
abbrev pub root_of : Origin → ℕ
root_of (AtVariable root) = root
root_of (AtRecord root slot steps) = root

-- the way from the variable to where an access begins
abbrev pub steps_of : Origin → List PathStep
steps_of (AtVariable root) = []
steps_of (AtRecord root slot steps) = steps

-- the step of a selector, without its index
abbrev pub step_of : Selector → PathStep
step_of (Element fits cells) = path.Element
step_of (Field position offset) = path.Field position

-- how many index expressions selectors take
abbrev pub index_count : List Selector → ℕ
index_count [] = 0
index_count (Element fits cells ∷ selectors) = suc (index_count selectors)
index_count (Field position offset ∷ selectors) = index_count selectors

abbrev pub are_values_of : OrdinalRange → OrdinalRange → Bool
are_values_of range other = int_eq range.first other.first && int_eq range.last other.last

-- the type of an element, where an index is tested for these values and an element takes so many cells
abbrev pub element_type : OrdinalRange → ℕ → Option ArrayElement → Option TypeId
element_type range cells None = None
element_type range cells (Some element) =
    if are_values_of range element.range && nat_eq cells element.cells then Some element.type_id else None

-- the type of a field before which others take so many cells
abbrev pub field_type : ℕ → Option RecordField → Option TypeId
field_type offset None = None
field_type offset (Some field) = if nat_eq offset field.offset then Some field.type_id else None

-- the type of the component that is selected from a value of a type
abbrev pub selected : List Form → Selector → TypeId → Option TypeId
selected types (Element fits cells) id = element_type fits.range cells (element_of types id)
selected types (Field position offset) id = field_type offset (field_at types id position)

-- the type of the component to which selectors lead from a value of a type
abbrev pub led : List Form → List Selector → TypeId → Option TypeId
led types [] id = Some id
led types (selector ∷ selectors) id = option_and_then (led types selectors) (selected types selector id)

-- the type of the component to which a step leads from a value of a type
abbrev pub stepped : List Form → PathStep → TypeId → Option TypeId
stepped types path.Element id = option_map (λ element. element.type_id) (element_of types id)
stepped types (path.Field position) id = option_map (λ field. field.type_id) (field_at types id position)

-- the type of what lies on this way in a value of a type
abbrev pub lying : List Form → List PathStep → TypeId → Option TypeId
lying types [] id = Some id
lying types (step ∷ steps) id = option_and_then (lying types steps) (stepped types step id)

-- the type of what an access accesses, by where it begins and its selectors
abbrev pub accessed : List Variable → List Form → Origin → List Selector → Option TypeId
accessed variables types (AtVariable root) selectors =
    option_and_then (λ variable. led types selectors variable.type_id) (slice_get variables root)
accessed variables types (AtRecord root slot steps) selectors =
    option_and_then (λ variable. option_and_then (led types selectors) (lying types steps variable.type_id))
    (slice_get variables root)

-- there is a type of which a test holds
abbrev pub is_type : (TypeId → Bool) → Option TypeId → Bool
is_type test None = false
is_type test (Some id) = test id
