-- Worked rows of the definitions of types.
use Rattle.std.proofs.Common.{◌≡◌, ◌∷◌, ◌++◌, [], ℕ, List, Some, None, Ok, Err, refl, true, false, codes, pos, negsuc, slice_get}
use Rattle.types.specs.declared.form.Step.TheVariants as step
use Rattle.types.specs.Forms.{Form}
use Rattle.types.specs.Forms.{Enumeration, Subrange, Array, Record, Set}
use Rattle.types.specs.declared.form.TypeId.{TypeId}
use Rattle.types.specs.declared.refusal.TypeRefusal.TheVariants as refusal
use Rattle.types.specs.Components.{components_of}
use Rattle.types.specs.Types.{admitted, boolean, cells_of, char, element_of, field_at, field_of, host_of, integer, is_assignable, is_compatible}
use Rattle.types.specs.Types.{is_ordinal, is_scalar, is_string, is_structured, range_of, required_forms, scalar_range_of, string_length}
use Rattle.types.specs.Types.{are_compatible_sets, joined_base}
use Rattle.types.specs.declared.sets.SetBase.{SetBase}

-- a type by its number
abbrev number : ℕ → TypeId
number n = record { index = n }

-- (red, green, blue) is 3, 1..10 is 4, 5..7 is 5, red..green is 6; the array types with index type 1..10 are 7 of integer,
-- 8 of integer again, 9 of char, 10 packed of char and 11 packed of char again; 12 is packed over 5..7
abbrev table : List Form
table = required_forms
    ++ Enumeration (pos 2)
    ∷ Subrange integer (pos 1) (pos 10)
    ∷ Subrange integer (pos 5) (pos 7)
    ∷ Subrange (number 3) (pos 0) (pos 1)
    ∷ Array false (number 4) integer
    ∷ Array false (number 4) integer
    ∷ Array false (number 4) char
    ∷ Array true (number 4) char
    ∷ Array true (number 4) char
    ∷ Array true (number 5) char
    ∷ []

-- a subrange and its host type, and subranges of one host type, are compatible
subrange_with_host : is_compatible table (number 4) integer ≡ true
subrange_with_host = refl

subranges_of_one_host : is_compatible table (number 4) (number 5) ≡ true
subranges_of_one_host = refl

subrange_of_enumeration : is_assignable table (number 6) (number 3) ≡ true
subrange_of_enumeration = refl

-- types with different hosts are not
other_hosts : is_compatible table (number 4) (number 6) ≡ false
other_hosts = refl

enumeration_with_integer : is_compatible table (number 3) integer ≡ false
enumeration_with_integer = refl

-- nor are two arrays, although they are made alike, unless they are strings
same_array : is_compatible table (number 7) (number 7) ≡ true
same_array = refl

equal_arrays : is_compatible table (number 7) (number 8) ≡ false
equal_arrays = refl

equal_strings : is_compatible table (number 10) (number 11) ≡ true
equal_strings = refl

-- a string is packed, and its index type begins at 1
string_of_ten : string_length table (number 10) ≡ Some 10
string_of_ten = refl

not_packed : is_string table (number 9) ≡ false
not_packed = refl

not_from_one : is_string table (number 12) ≡ false
not_from_one = refl

-- the host types and the values of ordinal types
host_of_subrange : host_of table (number 6) ≡ number 3
host_of_subrange = refl

host_of_array : host_of table (number 7) ≡ number 7
host_of_array = refl

values_of_enumeration : range_of table (number 3) ≡ Some (record { first = pos 0; last = pos 2 })
values_of_enumeration = refl

array_is_not_ordinal : is_ordinal table (number 7) ≡ false
array_is_not_ordinal = refl

-- a type that the table doesn't have
no_such_type : range_of table (number 13) ≡ None
no_such_type = refl

-- an array takes a cell for each scalar in it
cells_of_array : cells_of table (number 7) ≡ 10
cells_of_array = refl

-- types are numbered in order
next_number : admitted table (Array false boolean (number 7)) ≡ Ok (number 13)
next_number = refl

-- Y1 begins where the first value lies above the last
one_value : admitted table (Subrange integer (pos 3) (pos 3)) ≡ Ok (number 13)
one_value = refl

no_value : admitted table (Subrange integer (pos 3) (pos 2)) ≡ Err refusal.FirstAboveLast
no_value = refl

-- Y2 begins with 65537 cells
abbrev of_index : Form → List Form
of_index index = required_forms ++ index ∷ []

most_of_array : admitted (of_index (Subrange integer (pos 1) (pos 65536))) (Array false (number 3) integer) ≡ Ok (number 4)
most_of_array = refl

more_than_most : admitted (of_index (Subrange integer (pos 0) (pos 65536))) (Array false (number 3) integer) ≡ Err refusal.TooManyCells
more_than_most = refl

array_over_integer : admitted required_forms (Array false integer boolean) ≡ Err refusal.TooManyCells
array_over_integer = refl

-- a scalar is its own component, and an array has one for each index, negative ones too
scalar : components_of table (number 4) ≡ [] ∷ []
scalar = refl

abbrev below_zero : List Form
below_zero = of_index (Subrange integer (negsuc 1) (pos 0)) ++ Array false (number 3) char ∷ Array false boolean (number 4) ∷ []

negative_indexes : components_of below_zero (number 4)
    ≡ (step.Element (negsuc 1) ∷ []) ∷ (step.Element (negsuc 0) ∷ []) ∷ (step.Element (pos 0) ∷ []) ∷ []
negative_indexes = refl

array_in_array : slice_get (components_of below_zero (number 5)) 4 ≡ Some (step.Element (pos 1) ∷ step.Element (negsuc 0) ∷ [])
array_in_array = refl

elements_with_range : element_of below_zero (number 5)
    ≡ Some (record { index = boolean; range = record { first = pos 0; last = pos 1 }; type_id = number 4; cells = 3 })
elements_with_range = refl

no_array : element_of below_zero (number 3) ≡ None
no_array = refl

-- an array of a type that doesn't stand before it has no elements to step to
of_itself : element_of (required_forms ++ Array false boolean (number 3) ∷ []) (number 3) ≡ None
of_itself = refl

-- a record with the fields number : integer, row : array [1..10] of integer
abbrev with_record : List Form
with_record =
    table
    ++ Record false (record { name = codes "number"; type_id = integer } ∷ record { name = codes "row"; type_id = number 7 } ∷ [])
    ∷ Array false boolean (number 13) ∷ Record true [] ∷ Array false integer (number 15) ∷ []

-- it takes the cells of both
cells_of_record : cells_of with_record (number 13) ≡ 11
cells_of_record = refl

array_of_records : cells_of with_record (number 14) ≡ 22
array_of_records = refl

-- a record without fields takes none, and so does each array of such
empty_record : cells_of with_record (number 15) ≡ 0
empty_record = refl

array_of_empty_records : cells_of with_record (number 16) ≡ 0
array_of_empty_records = refl

-- a field is found by its name
second_field : field_of with_record (number 13) (codes "row") ≡ Some (record { position = 1; offset = 1; type_id = number 7 })
second_field = refl

no_field : field_of with_record (number 13) (codes "column") ≡ None
no_field = refl

no_record : field_of with_record (number 14) (codes "row") ≡ None
no_record = refl

field_of_place : field_at with_record (number 13) 1 ≡ field_of with_record (number 13) (codes "row")
field_of_place = refl

no_place : field_at with_record (number 13) 2 ≡ None
no_place = refl

-- the components of the fields one after another
first_component : slice_get (components_of with_record (number 13)) 0 ≡ Some (step.Field 0 ∷ [])
first_component = refl

last_component : slice_get (components_of with_record (number 13)) 10 ≡ Some (step.Field 1 ∷ step.Element (pos 10) ∷ [])
last_component = refl

-- and those of the elements
second_record : slice_get (components_of with_record (number 14)) 11 ≡ Some (step.Element (pos 1) ∷ step.Field 0 ∷ [])
second_record = refl

in_second_record : slice_get (components_of with_record (number 14)) 14 ≡ Some (step.Element (pos 1) ∷ step.Field 1 ∷ step.Element (pos 3) ∷ [])
in_second_record = refl

-- an empty record has none
no_components : components_of with_record (number 15) ≡ []
no_components = refl

-- sets of 1..10 are 4, sets of 5..7 are 5 and 6, these packed, and sets of char are 7
abbrev with_sets : List Form
with_sets =
    required_forms
    ++ Subrange integer (pos 1) (pos 10) ∷ Set false integer (pos 1) (pos 10) ∷ Set false integer (pos 5) (pos 7)
    ∷ Set true integer (pos 5) (pos 7) ∷ Set false char (pos 0) (pos 127) ∷ []

-- sets of one host type are compatible, both packed or neither
sets_of_one_host : is_compatible with_sets (number 4) (number 5) ≡ true
sets_of_one_host = refl

packed_set : is_compatible with_sets (number 5) (number 6) ≡ false
packed_set = refl

sets_of_other_hosts : is_compatible with_sets (number 4) (number 7) ≡ false
sets_of_other_hosts = refl

set_with_member : is_compatible with_sets (number 4) integer ≡ false
set_with_member = refl

-- a set is scalar: neither an ordinal nor structured, of one cell
set_is_not_ordinal : is_ordinal with_sets (number 4) ≡ false
set_is_not_ordinal = refl

set_is_not_structured : is_structured with_sets (number 4) ≡ false
set_is_not_structured = refl

values_of_members : scalar_range_of with_sets (number 4) ≡ Some (record { first = pos 1; last = pos 10 })
values_of_members = refl

array_is_not_scalar : is_scalar table (number 7) ≡ false
array_is_not_scalar = refl

cell_of_set : cells_of with_sets (number 7) ≡ 1
cell_of_set = refl

component_of_set : components_of with_sets (number 7) ≡ [] ∷ []
component_of_set = refl

-- a constructor is packed and not, and the one without members is of each host type
abbrev constructed : SetBase
constructed = record { host = Some integer; packed = None }

abbrev unpacked : SetBase
unpacked = record { host = Some integer; packed = Some false }

empty_with_any : are_compatible_sets (record { host = None; packed = None }) unpacked ≡ true
empty_with_any = refl

constructed_with_unpacked : are_compatible_sets constructed unpacked ≡ true
constructed_with_unpacked = refl

joined_with_unpacked : joined_base constructed unpacked ≡ unpacked
joined_with_unpacked = refl

-- Y3 begins below 0 and above 127
most_of_set : admitted required_forms (Set false integer (pos 0) (pos 127)) ≡ Ok (number 3)
most_of_set = refl

above_most : admitted required_forms (Set false integer (pos 0) (pos 128)) ≡ Err refusal.MembersOutOfRange
above_most = refl

below_zero_in_set : admitted required_forms (Set false integer (negsuc 0) (pos 5)) ≡ Err refusal.MembersOutOfRange
below_zero_in_set = refl
