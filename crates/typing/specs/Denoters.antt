-- The typing of type denoters (ISO 7185:1990, 6.4.1 to 6.4.3): of each the first rule that it breaks, or the type
-- that it denotes. A name denotes the type that it names, and every other denoter a type of its own. The parts of an
-- array or a record come in the order of the text, and then the rules of its own, which are told at its word.
-- It says nothing of where they stand.
use Rattle.std.specs.Prelude.{ℕ, ◌+◌, ◌-◌, ◌&&◌, ℤ, Bool, List, [], ◌∷◌, ◌++◌, length, Option, Some, Result, Ok, Err}
use Rattle.std.specs.Prelude.{if◌then◌else◌, nat_eq, option_map}
use Rattle.std.specs.List.{list_any}
use Rattle.std.specs.Cmp.Lexicographic.{pointwise}
use Rattle.memory.specs.Refused.{the_refusal}
use Rattle.place.specs.declared.Place.{Place}
use Rattle.syntax_tree.specs.declared.Constant.{Constant}
use Rattle.syntax_tree.specs.declared.Name.{Name}
use Rattle.syntax_tree.specs.declared.TypeDenoter.{TypeDenoter}
use Rattle.syntax_tree.specs.declared.TypeDenoter.TheOpen.{TypeDenoter-F}
use Rattle.syntax_tree.specs.declared.TypeDenoter.TheOpen.TypeDenoter-F.{Name as NamedType, Enumerated}
use Rattle.syntax_tree.specs.declared.TypeDenoter.TheOpen.TypeDenoter-F.{Subrange as SubrangeOf, Array as ArrayOf}
use Rattle.syntax_tree.specs.declared.TypeDenoter.TheOpen.TypeDenoter-F.{Record as RecordOf, Set as SetOf}
use Rattle.syntax_tree.specs.declared.TypeDenoter.TheFolds.{fold-TypeDenoter}
use Rattle.syntax_tree.specs.Places.{fields_of}
use Rattle.types.specs.Forms.{Form}
use Rattle.types.specs.Forms.{FieldForm, Enumeration, Subrange, Array, Record, Set}
use Rattle.types.specs.declared.form.TypeId.{TypeId}
use Rattle.types.specs.Types.{host_of, is_ordinal, is_same, range_of}
use Rattle.scopes.specs.Scopes.{found}
use Rattle.scopes.specs.declared.denotation.Denotation.{Denotation}
use Rattle.scopes.specs.declared.denotation.Denotation.TheVariants as denotes
use Rattle.scopes.specs.declared.fault.ScopeFault.{ScopeFault}
use Rattle.scopes.specs.declared.fault.ScopeFault.TheVariants as scope
use Rattle.typed_tree.specs.declared.fault.TypeFault.TheVariants as fault
use Rattle.typing.specs.Constants.{ordinal_constant}
use Rattle.typing.specs.Names.{folded}
use Rattle.typing.specs.Passing.{Passing, after, pure, given, by_types, ◌>>=◌, ◌>>◌, ◌>>?◌}
use Rattle.typing_rules.specs.Checked.{Checked, and_then}
use Rattle.typing.specs.Steps.{pass, value_of, add_type, declare, latest}
use Rattle.typing_rules.specs.Checked.{fits, or_mismatch}

-- the type that a name denotes; K1 at the name where it denotes anything else
abbrev pub named_type : Name → Result Denotation ScopeFault → Checked TypeId
named_type name (Ok (denotes.TypeName type_id)) = Ok type_id
named_type name (Ok (denotes.Constant value type_id)) = Err (fault.Mismatch name.place)
named_type name (Ok (denotes.Text number type_id)) = Err (fault.Mismatch name.place)
named_type name (Ok (denotes.Variable root type_id)) = Err (fault.Mismatch name.place)
named_type name (Ok (denotes.Field slot position offset type_id)) = Err (fault.Mismatch name.place)
named_type name (Ok (denotes.Procedure procedure)) = Err (fault.Mismatch name.place)
named_type name (Ok (denotes.Function function)) = Err (fault.Mismatch name.place)
named_type name (Ok (denotes.Routine block is_function)) = Err (fault.Mismatch name.place)
named_type name (Ok (denotes.InputFunction function)) = Err (fault.Mismatch name.place)
named_type name (Ok (denotes.File file)) = Err (fault.Mismatch name.place)
named_type name (Err scope.UsedBeforeDeclared) = Err (fault.UsedBeforeDeclared name.place)
named_type name (Err scope.NotDeclared) = Err (fault.NotDeclared name.place)
named_type name (Err scope.DeclaredTwice) = Err (fault.DeclaredTwice name.place)
named_type name (Err (scope.Memory _)) = Err (fault.Memory the_refusal)

-- the type that a name denotes
unfoldable pub type_of_name : Name → Passing TypeId
type_of_name name = λ s.
    and_then (named_type name (found s.regions (folded name.text.now)))
    (λ type_id. Ok (after type_id [] (record s { latest = name.place })))

-- the constants of an enumerated type, of which the first has this number
abbrev pub constants_from : TypeId → ℕ → List Name → Passing (Unit {0})
constants_from type_id number [] = pure tt
constants_from type_id number (name ∷ names) = do
  value ← given (value_of number name.place)
  declare name (denotes.Constant value type_id)
  constants_from type_id (number + 1) names

-- an enumerated type: its constants count from 0
unfoldable pub enumeration : List Name → Passing TypeId
enumeration names = do
  place ← latest
  last ← given (value_of (length names - 1) place)
  type_id ← add_type place (Enumeration last)
  constants_from type_id 0 names
  pure type_id

-- the form of a subrange, whose constants are of one ordinal type
abbrev pub between : List Form → Place → Option (ℤ × TypeId) → Option (ℤ × TypeId) → Checked Form
between types place (Some first) (Some last) =
    fits (is_same (host_of types first.1) (host_of types last.1) && is_ordinal types first.1) place
    (Subrange (host_of types first.1) first.0 last.0)
between types place first last = Err (fault.Mismatch place)

-- a subrange: what it breaks of its own is told at its `..`
unfoldable pub subrange : Constant → Place → Constant → Passing TypeId
subrange first place last = do
  f ← ordinal_constant first
  form ← ordinal_constant last >>? (λ types l. between types place f l)
  add_type place form

-- a denoter as it is typed
abbrev pub WrittenDenoter : Type 0
WrittenDenoter = Passing TypeId

-- an index type is ordinal; K1 where it isn't, at its latest token that the tree tells
unfoldable pub index_type : WrittenDenoter → Passing TypeId
index_type denoter = do
  id ← denoter
  place ← latest
  by_types (λ types. fits (is_ordinal types id) place id)

abbrev pub index_types : List WrittenDenoter → Passing (List TypeId)
index_types [] = pure []
index_types (denoter ∷ denoters) = do
  id ← index_type denoter
  ids ← index_types denoters
  pure (id ∷ ids)

-- an array with several indexes is one of arrays with the indexes behind the first, packed as it is (6.4.3.2)
abbrev pub arrays : Bool → Place → List TypeId → TypeId → Passing TypeId
arrays packed place [] element = pure element
arrays packed place (index ∷ indexes) element =
    arrays packed place indexes element >>= (λ inner. add_type place (Array packed index inner))

unfoldable pub array : Bool → Place → List WrittenDenoter → WrittenDenoter → Passing TypeId
array packed place indexes element = do
  pass place
  ids ← index_types indexes
  inner ← element
  arrays packed place ids inner

-- fields of a type, behind other fields: S1 at a name that one before it has
abbrev pub named_fields : List FieldForm → TypeId → List Name → Checked (List FieldForm)
named_fields before type_id [] = Ok before
named_fields before type_id (name ∷ names) =
    if list_any (λ field. pointwise nat_eq field.name (folded name.text.now)) before
    then Err (fault.DeclaredTwice name.place)
    else named_fields (before ++ record { name = folded name.text.now; type_id = type_id } ∷ []) type_id names

-- groups of fields, behind other fields: of each its type, and then its names
abbrev pub grouped_fields : List FieldForm → List (List Name × WrittenDenoter) → Passing (List FieldForm)
grouped_fields before [] = pure before
grouped_fields before (group ∷ groups) = do
  type_id ← group.1
  fields ← given (named_fields before type_id group.0)
  grouped_fields fields groups

unfoldable pub record_type : Bool → Place → List (List Name × WrittenDenoter) → Passing TypeId
record_type packed place groups = do
  pass place
  fields ← grouped_fields [] groups
  add_type place (Record packed fields)

-- the form of a set type, over a base that is ordinal
abbrev pub set_form : List Form → Bool → TypeId → Option Form
set_form types packed base =
    option_map (λ range. Set packed (host_of types base) range.first range.last) (range_of types base)

-- a set type (6.4.3.4): its base is ordinal, as an index type is, and what it breaks of its own is told at its word
unfoldable pub set_type : Bool → Place → WrittenDenoter → Passing TypeId
set_type packed place base = do
  pass place
  id ← index_type base
  form ← by_types (λ types. or_mismatch place (set_form types packed id))
  add_type place form

abbrev pub denoter_step : TypeDenoter-F WrittenDenoter → WrittenDenoter
denoter_step (NamedType name) = type_of_name name
denoter_step (Enumerated constants) = enumeration constants.items
denoter_step (SubrangeOf first place last) = subrange first place last
denoter_step (ArrayOf packed place indexes element) = array packed place indexes.items element.value
denoter_step (RecordOf packed place rows denoters semicolon) =
    record_type packed place (fields_of rows.items denoters.items)
denoter_step (SetOf packed place base) = set_type packed place base.value

-- the type that a denoter denotes
abbrev pub denoted_type : TypeDenoter → WrittenDenoter
denoted_type = fold-TypeDenoter WrittenDenoter denoter_step
