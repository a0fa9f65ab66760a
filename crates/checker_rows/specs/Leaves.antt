-- The leaves of a type: its scalar components, ordinals and sets, of which those that differ in indexes alone are one
-- (ISO 7185:1990, 6.4.3.2, 6.4.3.3), in the order of the text. It says nothing of what they hold.
use Rattle.std.specs.Prelude.{ℕ, ◌+◌, Bool, true, false, ◌&&◌, List, [], ◌∷◌, ◌++◌, Option, Some, None, fold, map}
use Rattle.std.specs.Prelude.{length, nat_eq, slice_get}
use Rattle.types.specs.Forms.{FieldForm, Form}
use Rattle.types.specs.Forms.{Integer, Boolean, Char, Enumeration, Subrange, Array, Record, Set}
use Rattle.types.specs.Types.{form_kind, form_range, scalar_range}
use Rattle.types.specs.declared.form.OrdinalRange.{OrdinalRange}
use Rattle.types.specs.declared.form.TypeId.{TypeId}
use Rattle.types.specs.declared.form.Step.{Step}
use Rattle.types.specs.declared.form.Step.TheVariants as step

-- a step to a leaf: to all elements of an array, or to the field at a place from 0 in its record
pub data LeafStep : Type 0 where
  Elements : LeafStep
  FieldAt : (position : ℕ) → LeafStep

-- a leaf: the steps to it, its type, if that is there, the values of its type, or those that the members of its sets
-- may have, and the values of each index on the way to it, the first one first
pub record Leaf : Type 0 where
  pub steps : List LeafStep
  pub type_id : Option TypeId
  pub values : Option OrdinalRange
  pub indexes : List OrdinalRange

-- a type with its leaves
pub record Leafed : Type 0 where
  pub form : Form
  pub leaves : List Leaf

-- a scalar is its own leaf
abbrev pub scalar : Option TypeId → Option OrdinalRange → Leaf
scalar type_id values = record { steps = []; type_id = type_id; values = values; indexes = [] }

abbrev pub entry_leaves : Option Leafed → List Leaf
entry_leaves None = scalar None None ∷ []
entry_leaves (Some entry) = entry.leaves

abbrev pub entry_range : Option Leafed → Option OrdinalRange
entry_range None = None
entry_range (Some entry) = form_range entry.form

-- the leaves of a type among those that have theirs, and the values of an ordinal one
abbrev pub leaves_at : List Leafed → TypeId → List Leaf
leaves_at entries id = entry_leaves (slice_get entries id.index)

abbrev pub range_at : List Leafed → TypeId → Option OrdinalRange
range_at entries id = entry_range (slice_get entries id.index)

-- the values of an index before those behind it; where the tree doesn't tell them, none are told from there on
abbrev pub index_before : Option OrdinalRange → List OrdinalRange → List OrdinalRange
index_before None indexes = []
index_before (Some range) indexes = range ∷ indexes

-- a leaf behind the elements of an array, or behind a field
abbrev pub behind_elements : Option OrdinalRange → Leaf → Leaf
behind_elements index leaf =
    record leaf { steps = Elements ∷ leaf.steps; indexes = index_before index leaf.indexes }

abbrev pub behind_field : ℕ → Leaf → Leaf
behind_field position leaf = record leaf { steps = FieldAt position ∷ leaf.steps }

-- those of the fields from a place on
abbrev pub fields_leaves : List Leafed → ℕ → List FieldForm → List Leaf
fields_leaves before position [] = []
fields_leaves before position (field ∷ fields) =
    map (behind_field position) (leaves_at before field.type_id) ++ fields_leaves before (position + 1) fields

-- that of a scalar form, whose number is that of the types before it
abbrev pub scalar_leaves : List Leafed → Form → List Leaf
scalar_leaves before form = scalar (Some (record { index = length before })) (scalar_range (form_kind form)) ∷ []

-- those of a form over types that have theirs
abbrev pub form_leaves : List Leafed → Form → List Leaf
form_leaves before Integer = scalar_leaves before Integer
form_leaves before Boolean = scalar_leaves before Boolean
form_leaves before Char = scalar_leaves before Char
form_leaves before (Enumeration last) = scalar_leaves before (Enumeration last)
form_leaves before (Subrange host first last) = scalar_leaves before (Subrange host first last)
form_leaves before (Array packed index element) =
    map (behind_elements (range_at before index)) (leaves_at before element)
form_leaves before (Record packed fields) = fields_leaves before 0 fields
form_leaves before (Set packed host first last) = scalar_leaves before (Set packed host first last)

abbrev pub leaf_next : List Leafed → Form → List Leafed
leaf_next before form = before ++ record { form = form; leaves = form_leaves before form } ∷ []

-- each type of a table with its leaves, which are those of the types before it
abbrev pub leafed : List Form → List Leafed
leafed types = fold leaf_next [] types

-- the leaves of a type
abbrev pub leaves_of : List Form → TypeId → List Leaf
leaves_of types id = leaves_at (leafed types) id

-- the steps to a component are among those that lead to a leaf
abbrev pub is_named : List LeafStep → List Step → Bool
is_named [] [] = true
is_named (Elements ∷ path) (step.Element index ∷ steps) = is_named path steps
is_named (FieldAt position ∷ path) (step.Field place ∷ steps) = nat_eq position place && is_named path steps
is_named path steps = false

-- steps to leaves begin with others
abbrev pub same_step : LeafStep → LeafStep → Bool
same_step Elements Elements = true
same_step (FieldAt a) (FieldAt b) = nat_eq a b
same_step a b = false

abbrev pub begins : List LeafStep → List LeafStep → Bool
begins [] steps = true
begins (first ∷ rest) [] = false
begins (first ∷ rest) (step ∷ steps) = same_step first step && begins rest steps
