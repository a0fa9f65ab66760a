-- The scalar components of a type in their order (ISO 7185:1990, 6.4.3.2, 6.4.3.3): one of a scalar, which is an
-- ordinal or a set, those of its elements of an array, from the first index to the last, those of its fields of a
-- record. Each is told by the steps that lead to it. It says nothing of what they hold.
use Rattle.std.specs.Prelude.{ℕ, zero, suc, ℤ, pos, ◌+◌, ◌+ℤ◌, List, [], ◌∷◌, ◌++◌, Option, Some, None, fold, map}
use Rattle.std.specs.Prelude.{flat_map, slice_get}
use Rattle.types.specs.Forms.{FieldForm}
use Rattle.types.specs.declared.form.OrdinalRange.{OrdinalRange}
use Rattle.types.specs.declared.form.Step.{Step}
use Rattle.types.specs.declared.form.Step.TheVariants as step
use Rattle.types.specs.Forms.{Form}
use Rattle.types.specs.Forms.{Integer, Boolean, Char, Enumeration, Subrange, Array, Record, Set}
use Rattle.types.specs.declared.form.TypeId.{TypeId}
use Rattle.types.specs.Types.{form_range, values_in}

-- the steps to a component
abbrev pub Steps : Type 0
Steps = List Step

-- a type with its components
pub record LaidOut : Type 0 where
  pub form : Form
  pub components : List Steps

-- so many values from a first one on
abbrev pub values_from : ℤ → ℕ → List ℤ
values_from first zero = []
values_from first (suc more) = first ∷ values_from (first +ℤ pos 1) more

abbrev pub range_values : Option OrdinalRange → List ℤ
range_values None = []
range_values (Some range) = values_from range.first (values_in range)

abbrev pub entry_components : Option LaidOut → List Steps
entry_components None = [] ∷ []
entry_components (Some entry) = entry.components

abbrev pub entry_values : Option LaidOut → List ℤ
entry_values None = []
entry_values (Some entry) = range_values (form_range entry.form)

-- the components of a type among those that are laid out, and the values of an ordinal one
abbrev pub components_at : List LaidOut → TypeId → List Steps
components_at entries id = entry_components (slice_get entries id.index)

abbrev pub values_at : List LaidOut → TypeId → List ℤ
values_at entries id = entry_values (slice_get entries id.index)

-- components behind a step
abbrev pub behind_step : Step → List Steps → List Steps
behind_step step rows = map (λ steps. step ∷ steps) rows

-- those of the fields from a place on
abbrev pub fields_components : List LaidOut → ℕ → List FieldForm → List Steps
fields_components before position [] = []
fields_components before position (field ∷ fields) =
    behind_step (step.Field position) (components_at before field.type_id)
    ++ fields_components before (position + 1) fields

-- those of a form over types that are laid out
abbrev pub form_components : List LaidOut → Form → List Steps
form_components before Integer = [] ∷ []
form_components before Boolean = [] ∷ []
form_components before Char = [] ∷ []
form_components before (Enumeration last) = [] ∷ []
form_components before (Subrange host first last) = [] ∷ []
form_components before (Array packed index element) =
    flat_map (λ value. behind_step (step.Element value) (components_at before element)) (values_at before index)
form_components before (Record packed fields) = fields_components before 0 fields
form_components before (Set packed host first last) = [] ∷ []

abbrev pub lay_next : List LaidOut → Form → List LaidOut
lay_next before form = before ++ record { form = form; components = form_components before form } ∷ []

-- each type of a table with its components, which are those of the types before it
abbrev pub laid_out : List Form → List LaidOut
laid_out types = fold lay_next [] types

-- the scalar components of a type
abbrev pub components_of : List Form → TypeId → List Steps
components_of types id = components_at (laid_out types) id
