-- What types are made of (ISO 7185:1990, 6.4), their parts by their numbers in a table. It says nothing of tables.
use Rattle.std.specs.Prelude.{ℕ, ℤ, Bool, List, map}
use Rattle.types.specs.declared.form.Field.{Field}
use Rattle.types.specs.declared.form.TypeForm.{TypeForm}
use Rattle.types.specs.declared.form.TypeForm.TheVariants as kept
use Rattle.types.specs.declared.form.TypeId.{TypeId}

-- a field of a record, its name in small letters (6.4.3.3)
pub record FieldForm : Type 0 where
  pub name : List ℕ
  pub type_id : TypeId

-- a required type, an enumerated type by its last value, a subrange of a host type, an array with an element for each
-- value of its index type, a record with its fields in the order of the text, or the sets of values of a host type from
-- the first to the last
pub data Form : Type 0 where
  Integer : Form
  Boolean : Form
  Char : Form
  Enumeration : (last : ℤ) → Form
  Subrange : (host : TypeId) → (first last : ℤ) → Form
  Array : (packed : Bool) → (index element : TypeId) → Form
  Record : (packed : Bool) → (fields : List FieldForm) → Form
  Set : (packed : Bool) → (host : TypeId) → (first last : ℤ) → Form

-- ---- as programs keep them

abbrev pub field_form : Field → FieldForm
field_form field = record { name = field.name.items; type_id = field.type_id }

abbrev pub form_of : TypeForm → Form
form_of kept.Integer = Integer
form_of kept.Boolean = Boolean
form_of kept.Char = Char
form_of (kept.Enumeration last) = Enumeration last
form_of (kept.Subrange host first last) = Subrange host first last
form_of (kept.Array packed index element) = Array packed index element
form_of (kept.Record packed fields) = Record packed (map field_form fields.items)
form_of (kept.Set packed host first last) = Set packed host first last
