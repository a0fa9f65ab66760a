-- What holds of every table of types (ISO 7185:1990, 6.4.2, 6.4.3.2, 6.4.3.3): a type has as many scalar components as
-- cells, each of them once; a scalar type is its own component, and the components of an element and of a field lie
-- one behind another in those of the array and of the record. It does not say which types may be added.
use Rattle.std.specs.Prelude.{◌≡◌, ℕ, ◌+◌, ◌*◌, ◌<◌, ◌≤◌, ℤ, pos, ◌-ℤ◌, ◌≤ℤ◌, List, [], ◌∷◌, Some, true, length}
use Rattle.std.specs.Prelude.{slice_get}
use Rattle.std.specs.Option.{option_map}
use Rattle.types.specs.Components.{Steps, components_of}
use Rattle.types.specs.Forms.{Form}
use Rattle.types.specs.declared.form.ArrayElement.{ArrayElement}
use Rattle.types.specs.declared.form.RecordField.{RecordField}
use Rattle.types.specs.declared.form.Step.TheVariants as step
use Rattle.types.specs.declared.form.TypeId.{TypeId}
use Rattle.types.specs.Types.{cells_of, element_of, field_at, is_scalar}

-- a type has as many components as cells
abbrev pub ComponentsAreCells : Type 0
ComponentsAreCells = (types : List Form) (id : TypeId) → length (components_of types id) ≡ cells_of types id

-- the steps to a component lead to no other one
abbrev pub ComponentsStandOnce : Type 0
ComponentsStandOnce =
    (types : List Form) (id : TypeId) (first second : ℕ) (steps : Steps)
    → slice_get (components_of types id) first ≡ Some steps → slice_get (components_of types id) second ≡ Some steps
    → first ≡ second

-- a scalar type is its own component
abbrev pub ScalarsHaveOneComponent : Type 0
ScalarsHaveOneComponent =
    (types : List Form) (id : TypeId) → is_scalar types id ≡ true → components_of types id ≡ [] ∷ []

-- an element of an array has the cells of its type, and at an index with so many before it, as many times these cells
-- lie before its components
pub record HasElements (types : List Form) (id : TypeId) (element : ArrayElement) : Type 0 where
  pub cells : element.cells ≡ cells_of types element.type_id
  pub components : (index : ℤ) (before k : ℕ) → element.range.first ≤ℤ index → index ≤ℤ element.range.last
      → pos before ≡ index -ℤ element.range.first → k < element.cells
      → slice_get (components_of types id) (before * element.cells + k)
      ≡ option_map (λ steps. step.Element index ∷ steps) (slice_get (components_of types element.type_id) k)

abbrev pub ElementsLieInOrder : Type 0
ElementsLieInOrder =
    (types : List Form) (id : TypeId) (element : ArrayElement)
    → element_of types id ≡ Some element → HasElements types id element

-- a field ends within its record, and as many cells as its offset tells lie before its components
pub record HasField (types : List Form) (id : TypeId) (position : ℕ) (field : RecordField) : Type 0 where
  pub ends : field.offset + cells_of types field.type_id ≤ cells_of types id
  pub components : (k : ℕ) → k < cells_of types field.type_id
      → slice_get (components_of types id) (field.offset + k)
      ≡ option_map (λ steps. step.Field position ∷ steps) (slice_get (components_of types field.type_id) k)

abbrev pub FieldsLieInOrder : Type 0
FieldsLieInOrder =
    (types : List Form) (id : TypeId) (position : ℕ) (field : RecordField)
    → field_at types id position ≡ Some field → HasField types id position field
