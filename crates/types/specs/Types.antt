-- The rules of types (ISO 7185:1990, 6.4.2 to 6.4.6) over a table of types and their numbers there: the values of an
-- ordinal type and those of the members of a set, host types, strings, compatible and assignment compatible types, the
-- cells that a variable takes, the fields of a record, the elements of an array, and the forms that may be added. They
-- say nothing of which type a denoter denotes.
use Rattle.std.specs.Prelude.{◌≡◌, ℕ, ◌+◌, ◌*◌, nat_eq, nat_lt, ℤ, pos, negsuc, neg_ℤ, ◌+ℤ◌, ◌-ℤ◌, int_lt}
use Rattle.std.specs.Prelude.{List, [], ◌∷◌, ◌++◌, length, fold, sum_by, slice_get, take, bytes_eq}
use Rattle.std.specs.Prelude.{Bool, true, false, ◌&&◌, ◌||◌, if◌then◌else◌, Option, Some, None, is_some, ok_or}
use Rattle.std.specs.Prelude.{option_map}
use Rattle.std.specs.Bool.{beq}
use Rattle.std.specs.Prelude.{Result, Ok, Err}
use Rattle.std.specs.Option.{option_and_then}
use Rattle.std.specs.Ordering.{int_eq}
use Rattle.types.specs.Forms.{FieldForm}
use Rattle.types.specs.Forms.{Form}
use Rattle.types.specs.Forms.{Integer, Boolean, Char, Enumeration, Subrange, Array, Record, Set}
use Rattle.types.specs.declared.form.TypeId.{TypeId}
use Rattle.types.specs.declared.form.OrdinalRange.{OrdinalRange}
use Rattle.types.specs.declared.form.TypeKind.{TypeKind}
use Rattle.types.specs.declared.form.TypeKind.TheVariants.{Ordinal, Structured}
use Rattle.types.specs.declared.form.TypeKind.TheVariants.{Set as Sets}
use Rattle.types.specs.declared.sets.SetBase.{SetBase}
use Rattle.types.specs.declared.form.RecordField.{RecordField}
use Rattle.types.specs.declared.form.ArrayElement.{ArrayElement}
use Rattle.types.specs.declared.refusal.TypeRefusal.{TypeRefusal}
use Rattle.types.specs.declared.refusal.TypeRefusal.TheVariants as refusal

-- a type with the cells that a variable of it takes
pub record Counted : Type 0 where
  pub form : Form
  pub cells : ℕ

-- the required types, in the order of their numbers
abbrev pub required_forms : List Form
required_forms = Integer ∷ Boolean ∷ Char ∷ []

-- a table begins with the required types, and then come a program's own
abbrev pub BeginWithRequired : List Form → Type 0
BeginWithRequired types = (own : List Form) × (types ≡ required_forms ++ own)

-- the type integer is the first of each table
abbrev pub integer : TypeId
integer = record { index = 0 }

-- the type Boolean is the second
abbrev pub boolean : TypeId
boolean = record { index = 1 }

-- the type char is the third
abbrev pub char : TypeId
char = record { index = 2 }

-- the form of a type of a table
abbrev pub form_at : List Form → TypeId → Option Form
form_at types id = slice_get types id.index

-- two types are the same if they have one number
abbrev pub is_same : TypeId → TypeId → Bool
is_same first second = nat_eq first.index second.index

-- the kind of an ordinal type with the values from the first to the last
abbrev pub ordinal : ℤ → ℤ → TypeKind
ordinal first last = Ordinal (record { first = first; last = last })

-- the kind of a form (6.4.1): ordinal (6.4.2), a set (6.4.3.4), or structured, an array or a record (6.4.3)
abbrev pub form_kind : Form → TypeKind
form_kind Integer = ordinal (neg_ℤ (pos 2147483647)) (pos 2147483647)
form_kind Boolean = ordinal (pos 0) (pos 1)
form_kind Char = ordinal (pos 0) (pos 127)
form_kind (Enumeration last) = ordinal (pos 0) last
form_kind (Subrange host first last) = ordinal first last
form_kind (Array packed index element) = Structured
form_kind (Record packed fields) = Structured
form_kind (Set packed host first last) =
    Sets (record { host = Some host; packed = Some packed }) (record { first = first; last = last })

-- the kind of a type of a table
abbrev pub kind_of : List Form → TypeId → Option TypeKind
kind_of types id = option_map form_kind (form_at types id)

-- the first and the last value of an ordinal type
abbrev pub kind_range : TypeKind → Option OrdinalRange
kind_range (Ordinal range) = Some range
kind_range (Sets base members) = None
kind_range Structured = None

abbrev pub form_range : Form → Option OrdinalRange
form_range form = kind_range (form_kind form)

-- the same of a type of a table
abbrev pub range_of : List Form → TypeId → Option OrdinalRange
range_of types id = option_and_then form_range (form_at types id)

-- a type is ordinal, if it has a first and a last value
abbrev pub is_ordinal : List Form → TypeId → Bool
is_ordinal types id = is_some (range_of types id)

-- the values of a scalar type: those of an ordinal type, or those that the members of a set may have
abbrev pub scalar_range : TypeKind → Option OrdinalRange
scalar_range (Ordinal range) = Some range
scalar_range (Sets base members) = Some members
scalar_range Structured = None

-- the same of a type of a table
abbrev pub scalar_range_of : List Form → TypeId → Option OrdinalRange
scalar_range_of types id = option_and_then scalar_range (kind_of types id)

-- a type is scalar, if a variable of it has one value, an ordinal or a set
abbrev pub is_scalar : List Form → TypeId → Bool
is_scalar types id = is_some (scalar_range_of types id)

abbrev pub is_structured_kind : Option TypeKind → Bool
is_structured_kind (Some Structured) = true
is_structured_kind other = false

-- a type is structured
abbrev pub is_structured : List Form → TypeId → Bool
is_structured types id = is_structured_kind (kind_of types id)

abbrev pub host_in : TypeId → Option Form → TypeId
host_in id (Some (Subrange host first last)) = host
host_in id other = id

-- the host type of a subrange; another type itself (6.4.2.4)
abbrev pub host_of : List Form → TypeId → TypeId
host_of types id = host_in id (form_at types id)

-- a number that is not negative
abbrev pub natural : ℤ → ℕ
natural (pos n) = n
natural (negsuc n) = 0

-- the last value of a subrange of integer from 1 to more than 1
abbrev pub string_last : Option Form → Option ℕ
string_last (Some (Subrange host first last)) =
    if is_same host integer && (int_eq first (pos 1) && int_lt (pos 1) last) then Some (natural last) else None
string_last other = None

abbrev pub string_in : List Form → Option Form → Option ℕ
string_in types (Some (Array true index element)) =
    if is_same element char then string_last (form_at types index) else None
string_in types other = None

-- how many components a string has: a packed array of char over a subrange of integer from 1 to more than 1 (6.4.3.2)
abbrev pub string_length : List Form → TypeId → Option ℕ
string_length types id = string_in types (form_at types id)

abbrev pub is_string : List Form → TypeId → Bool
is_string types id = is_some (string_length types id)

abbrev pub have_one_length : Option ℕ → Option ℕ → Bool
have_one_length (Some first) (Some second) = nat_eq first second
have_one_length first second = false

-- of two facts that may be told, each agrees with one that isn't
abbrev pub agree : {A : Type 0} → (A → A → Bool) → Option A → Option A → Bool
agree same None second = true
agree same (Some first) None = true
agree same (Some first) (Some second) = same first second

-- sets that are compatible: their members are of one host type, and both are packed or neither is (6.4.5)
abbrev pub are_compatible_sets : SetBase → SetBase → Bool
are_compatible_sets first second = agree is_same first.host second.host && agree beq first.packed second.packed

-- what is told of either of two sets that are compatible
abbrev pub either_told : {A : Type 0} → Option A → Option A → Option A
either_told None second = second
either_told (Some first) second = Some first

abbrev pub joined_base : SetBase → SetBase → SetBase
joined_base first second =
    record { host = either_told first.host second.host; packed = either_told first.packed second.packed }

abbrev pub base_in : Option Form → Option SetBase
base_in (Some (Set packed host first last)) = Some (record { host = Some host; packed = Some packed })
base_in other = None

-- what the values of a set type are sets of; none of another type
abbrev pub set_base : List Form → TypeId → Option SetBase
set_base types id = base_in (form_at types id)

abbrev pub have_one_base : Option SetBase → Option SetBase → Bool
have_one_base (Some first) (Some second) = are_compatible_sets first second
have_one_base first second = false

-- compatible types: one type, a subrange and its host type, subranges of one host type, strings of one length, sets of
-- one host type that are both packed or both not (6.4.5)
abbrev pub is_compatible : List Form → TypeId → TypeId → Bool
is_compatible types first second =
    is_same (host_of types first) (host_of types second)
    || (have_one_length (string_length types first) (string_length types second)
    || have_one_base (set_base types first) (set_base types second))

-- a value of the second type may be assigned to the first, if it lies in its range, as each member of a set has to:
-- compatible types (6.4.6)
abbrev pub is_assignable : List Form → TypeId → TypeId → Bool
is_assignable types target value = is_compatible types target value

-- how many values a range has
abbrev pub values_in : OrdinalRange → ℕ
values_in range = natural (range.last -ℤ range.first +ℤ pos 1)

abbrev pub index_values : Option OrdinalRange → ℕ
index_values None = 0
index_values (Some range) = values_in range

abbrev pub entry_cells : Option Counted → ℕ
entry_cells None = 1
entry_cells (Some entry) = entry.cells

abbrev pub entry_values : Option Counted → ℕ
entry_values None = 0
entry_values (Some entry) = index_values (form_range entry.form)

-- the cells of a type among those counted, and how many values it has
abbrev pub cells_at : List Counted → TypeId → ℕ
cells_at entries id = entry_cells (slice_get entries id.index)

abbrev pub values_at : List Counted → TypeId → ℕ
values_at entries id = entry_values (slice_get entries id.index)

-- the cells of a form over types that are counted: one of a scalar, those of its elements or fields of another
abbrev pub form_cells : List Counted → Form → ℕ
form_cells before Integer = 1
form_cells before Boolean = 1
form_cells before Char = 1
form_cells before (Enumeration last) = 1
form_cells before (Subrange host first last) = 1
form_cells before (Array packed index element) = values_at before index * cells_at before element
form_cells before (Record packed fields) = sum_by (λ field. cells_at before field.type_id) fields
form_cells before (Set packed host first last) = 1

abbrev pub count_next : List Counted → Form → List Counted
count_next before form = before ++ record { form = form; cells = form_cells before form } ∷ []

-- each type of a table with its cells, which are counted from those of the types before it
abbrev pub counted : List Form → List Counted
counted types = fold count_next [] types

-- the cells that a variable of the type takes
abbrev pub cells_of : List Form → TypeId → ℕ
cells_of types id = cells_at (counted types) id

-- the field of a name among those from a place on, before which others take so many cells
abbrev pub field_among : List Counted → ℕ → ℕ → List FieldForm → List ℕ → Option RecordField
field_among entries position offset [] name = None
field_among entries position offset (field ∷ fields) name =
    if bytes_eq field.name name
    then Some (record { position = position; offset = offset; type_id = field.type_id })
    else field_among entries (position + 1) (offset + cells_at entries field.type_id) fields name

abbrev pub field_in : List Counted → List ℕ → Option Form → Option RecordField
field_in entries name (Some (Record packed fields)) = field_among entries 0 0 fields name
field_in entries name other = None

-- the types before one, of which it is made, with their cells
abbrev pub before : List Form → TypeId → List Counted
before types id = counted (take id.index types)

abbrev pub own_field : TypeId → Option RecordField → Option RecordField
own_field id None = None
own_field id (Some field) = if nat_lt field.type_id.index id.index then Some field else None

-- the field of a record that has a name (6.5.3.3); its type stands before the record
abbrev pub field_of : List Form → TypeId → List ℕ → Option RecordField
field_of types id name = own_field id (field_in (before types id) name (form_at types id))

-- the fields from a place on, before which others take so many cells, each where it lies
abbrev pub placed_fields : List Counted → ℕ → ℕ → List FieldForm → List RecordField
placed_fields entries position offset [] = []
placed_fields entries position offset (field ∷ fields) =
    record { position = position; offset = offset; type_id = field.type_id }
    ∷ placed_fields entries (position + 1) (offset + cells_at entries field.type_id) fields

abbrev pub fields_in : List Counted → Option Form → List RecordField
fields_in entries (Some (Record packed fields)) = placed_fields entries 0 0 fields
fields_in entries other = []

-- the field at a place from 0 in its record
abbrev pub field_at : List Form → TypeId → ℕ → Option RecordField
field_at types id position = own_field id (slice_get (fields_in (before types id) (form_at types id)) position)

abbrev pub elements : List Counted → (id index element : TypeId) → Option OrdinalRange → Option ArrayElement
elements entries id index element None = None
elements entries id index element (Some range) =
    if nat_lt index.index id.index && nat_lt element.index id.index
    then Some (record { index = index; range = range; type_id = element; cells = cells_at entries element })
    else None

abbrev pub element_in : List Form → List Counted → TypeId → Option Form → Option ArrayElement
element_in types entries id (Some (Array packed index element)) =
    elements entries id index element (range_of types index)
element_in types entries id other = None

-- the elements of an array (6.5.3.2); their type and that of the indexes stand before the array
abbrev pub element_of : List Form → TypeId → Option ArrayElement
element_of types id = element_in types (before types id) id (form_at types id)

-- a type takes no more cells
abbrev pub most_cells : ℕ
most_cells = 65536

-- a number of cells that a type may take
abbrev pub few : ℕ → Option ℕ
few cells = if nat_lt most_cells cells then None else Some cells

-- the first value of a subrange lies above its last
abbrev pub is_turned : Form → Bool
is_turned (Subrange host first last) = int_lt last first
is_turned form = false

-- a member of a set may lie outside 0 to 127
abbrev pub has_outside_members : Form → Bool
has_outside_members (Set packed host first last) = int_lt first (pos 0) || int_lt (pos 127) last
has_outside_members form = false

-- the cells of a form that may be added to a table, or the rule that it breaks
abbrev pub admitted_cells : List Form → Form → Result ℕ TypeRefusal
admitted_cells types form =
    if is_turned form then Err refusal.FirstAboveLast
    else if has_outside_members form then Err refusal.MembersOutOfRange
    else ok_or (few (form_cells (counted types) form)) refusal.TooManyCells

abbrev pub numbered : List Form → Result ℕ TypeRefusal → Result TypeId TypeRefusal
numbered types (Ok cells) = Ok (record { index = length types })
numbered types (Err rule) = Err rule

-- the number of a form that is added to a table, or the rule that it breaks
abbrev pub admitted : List Form → Form → Result TypeId TypeRefusal
admitted types form = numbered types (admitted_cells types form)
