-- The steps of typing: a token that is passed, a form that is entered, a loop, a site, a name that is found, a control
-- variable, a region, a definition, a type, a variable, a block. It says nothing of the forms that take them.
use Rattle.std.specs.Prelude.{ℕ, ℤ, pos, ◌+◌, ◌-◌, ◌++◌, Bool, true, false, not, ◌&&◌, List, [], ◌∷◌, Option, Some}
use Rattle.std.specs.Prelude.{None}
use Rattle.std.specs.Prelude.{Result, Ok, Err, if◌then◌else◌, nat_eq, nat_le, nat_lt, length, slice_get, take, get_or}
use Rattle.std.specs.Prelude.{flat_map}
use Rattle.std.specs.List.{list_any}
use Rattle.memory.specs.Refused.{the_refusal}
use Rattle.place.specs.declared.Place.{Place}
use Rattle.syntax_tree.specs.declared.Name.{Name}
use Rattle.types.specs.Forms.{FieldForm, Form, Record}
use Rattle.types.specs.declared.form.RecordField.{RecordField}
use Rattle.types.specs.declared.form.TypeId.{TypeId}
use Rattle.types.specs.declared.refusal.TypeRefusal.{TypeRefusal}
use Rattle.types.specs.declared.refusal.TypeRefusal.TheVariants as refusal
use Rattle.types.specs.Types.{admitted, cells_of, field_of, form_at, host_of, most_cells, required_forms}
pub use Rattle.scopes.specs.Scopes.{innermost, outer}
use Rattle.scopes.specs.Scopes.{Region, found, opened, opened_beside, opened_with, define}
use Rattle.scopes.specs.declared.denotation.Denotation.{Denotation}
use Rattle.scopes.specs.declared.denotation.Denotation.TheVariants as denotes
use Rattle.scopes.specs.declared.denotation.File.{File}
use Rattle.scopes.specs.declared.denotation.File.TheVariants as file
use Rattle.typed_tree.specs.declared.fault.TypeFault.{TypeFault}
use Rattle.typed_tree.specs.declared.fault.TypeFault.TheVariants as fault
use Rattle.typed_tree.specs.declared.site.SiteKind.{SiteKind}
use Rattle.typed_tree.specs.Look.{Mark}
use Rattle.typed_tree.specs.declared.tree.VariableKind.{VariableKind}
use Rattle.typed_tree.specs.declared.tree.Variable.{Variable}
use Rattle.typed_tree.specs.WellFormed.{is_local_kind, most_blocks, most_entries, most_numbered}
use Rattle.typing.specs.Names.{folded, required_region}
use Rattle.typing.specs.Passing.{Headed, Enclosing, OpenRecord, Passed, Passing, after, pure, mark}
use Rattle.typing_rules.specs.Checked.{Checked, and_then}
use Rattle.typing.specs.Passing.{◌>>=◌}
use Rattle.typing_rules.specs.Checked.{fits, told}

-- the most sites of a program, and the most points
abbrev pub most_sites : ℕ
most_sites = 1000000

-- the heading of the program's block
abbrev pub program_heading : Headed
program_heading = record { around = []; parameters = []; result = None; region = []; cells = 0 }

-- the program's block
abbrev pub program_block : Enclosing
program_block = record { block = 0; around = []; cells = 0; waiting = [] }

-- what is known before a program, which begins here
abbrev pub begins : Place → Passed
begins start = record {
  regions = [];
  types = required_forms;
  texts = [];
  variables = [];
  headings = program_heading ∷ [];
  enclosing = program_block;
  has_input = false;
  has_output = false;
  sites = [];
  points = [];
  entries = 0;
  loops = 0;
  controls = [];
  records = [];
  threatened = [];
  assigned = [];
  latest = start;
}

-- a number as a value, which is at most maxint
abbrev pub value_of : ℕ → Place → Checked ℤ
value_of number place = fits (nat_le number 2147483647) place (pos number)

-- a token is passed
unfoldable pub pass : Place → Passing (Unit {0})
pass place = λ s. Ok (after tt [] (record s { latest = place }))

-- a statement or an expression is entered, by the number that it gets; one too many is told at the latest token
unfoldable pub enter : Passing ℕ
enter = λ s.
    if nat_le most_entries s.entries then Err (fault.TooMany s.latest)
    else Ok (after s.entries [] (record s { entries = s.entries + 1 }))

-- a form that looks so is entered
abbrev pub enter_as : (ℕ → Mark) → Passing (Unit {0})
enter_as marked = enter >>= (λ number. mark (marked number))

-- the number of a loop that begins; one too many is told at the latest token
abbrev pub number_loop : Passing ℕ
number_loop = λ s.
    if nat_le most_numbered s.loops then Err (fault.TooMany s.latest)
    else Ok (after s.loops [] (record s { loops = s.loops + 1 }))

-- a loop is entered, by its number among the entries and its number among the loops
unfoldable pub begin_loop : Passing (ℕ × ℕ)
begin_loop = enter >>= (λ number. number_loop >>= (λ loop_number. pure (number, loop_number)))

-- a loop that looks so is entered
abbrev pub enter_loop : (ℕ → ℕ → Mark) → Passing (Unit {0})
enter_loop marked = begin_loop >>= (λ numbers. mark (marked numbers.0 numbers.1))

-- a site, by its id
unfoldable pub site : SiteKind → Place → Passing ℕ
site kind place = λ s.
    if nat_le most_sites (length s.sites) then Err (fault.TooMany place)
    else Ok (after (length s.sites) [] (record s { sites = s.sites ++ (kind, place) ∷ []; latest = place }))

-- a point, by its id
unfoldable pub point : Place → Passing ℕ
point place = λ s.
    if nat_le most_sites (length s.points) then Err (fault.TooMany place)
    else Ok (after (length s.points) [] (record s { points = s.points ++ place ∷ []; latest = place }))

-- what a name denotes
unfoldable pub find : Name → Passing Denotation
find name = λ s.
    and_then (told name.place (found s.regions (folded name.text.now)))
    (λ denotation. Ok (after denotation [] (record s { latest = name.place })))

-- the block round the place declares a variable
abbrev pub is_own : ℕ → Option Variable → Bool
is_own block None = false
is_own block (Some variable) = nat_eq variable.block block

-- one more of them, unless it is there
abbrev pub with_one : List ℕ → ℕ → List ℕ
with_one roots root = if list_any (nat_eq root) roots then roots else roots ++ root ∷ []

-- one more of them, if it is none of the block's own
abbrev pub with_threatened : ℕ → Passed → Passed
with_threatened root s =
    if is_own s.enclosing.block (slice_get s.variables root) then s
    else record s { threatened = with_one s.threatened root }

-- a variable may be changed, if it isn't the control variable of a for statement round the place; else it is K5 at its
-- name. One of a block round this block is no control variable from here on
unfoldable pub may_change : Place → ℕ → Passing (Unit {0})
may_change place root = λ s.
    if list_any (λ control. nat_eq control root) s.controls then Err (fault.Threatened place)
    else Ok (after tt [] (with_threatened root s))

abbrev pub is_local : ℕ → Option Variable → Bool
is_local block None = false
is_local block (Some variable) = nat_eq variable.block block && is_local_kind variable.kind

-- a variable may be a control variable: one of the variable declaration part of the block that no routine of the block
-- changes (6.8.3.9); else it is K5 at its name
unfoldable pub may_control : Place → ℕ → Passing (Unit {0})
may_control place root = λ s.
    if is_local s.enclosing.block (slice_get s.variables root)
    && not (list_any (nat_eq root) s.threatened)
    then Ok (after tt [] s) else Err (fault.Threatened place)

-- the statement of a for begins, of this control variable
unfoldable pub begin_control : ℕ → Passing (Unit {0})
begin_control root = λ s. Ok (after tt [] (record s { controls = s.controls ++ root ∷ [] }))

-- it ends
unfoldable pub end_control : Passing (Unit {0})
end_control = λ s. Ok (after tt [] (record s { controls = take (length s.controls - 1) s.controls }))

-- ---- records of with statements

-- how many records stand round the place, which is the slot of the next one
unfoldable pub next_slot : Passing ℕ
next_slot = λ s. Ok (after (length s.records) [] s)

-- the record of a slot
unfoldable pub record_at : ℕ → Passing (Option OpenRecord)
record_at slot = λ s. Ok (after (slice_get s.records slot) [] s)

-- what the name of a field denotes, by the slot of its record
abbrev pub field_definition : ℕ → List ℕ → Option RecordField → List (List ℕ × Denotation)
field_definition slot name None = []
field_definition slot name (Some field) =
    (name, denotes.Field slot field.position field.offset field.type_id) ∷ []

abbrev pub definition_of : List Form → TypeId → ℕ → FieldForm → List (List ℕ × Denotation)
definition_of types id slot field = field_definition slot field.name (field_of types id field.name)

-- what the names of the fields of a type denote; K1 at the place where the type is no record
abbrev pub field_definitions : List Form → Place → TypeId → ℕ → Option Form → Checked (List (List ℕ × Denotation))
field_definitions types place id slot (Some (Record packed fields)) = Ok (flat_map (definition_of types id slot) fields)
field_definitions types place id slot other = Err (fault.Mismatch place)

-- a record is opened, whose fields are names from here on (6.8.3.10); K10 where there are too many
unfoldable pub open_record : Place → OpenRecord → Passing (Unit {0})
open_record place opened = λ s.
    if nat_le most_entries (length s.records) then Err (fault.TooMany place)
    else and_then
    (field_definitions s.types place opened.type_id (length s.records) (form_at s.types opened.type_id))
    (λ definitions. Ok (after tt [] (record s {
      regions = opened_with definitions ∷ s.regions;
      records = s.records ++ opened ∷ [];
    })))

-- the latest one is closed
unfoldable pub close_record : Passing (Unit {0})
close_record = λ s. Ok (after tt [] (record s {
  regions = outer s.regions;
  records = take (length s.records - 1) s.records;
}))

-- the region of a block that defines these names, in small letters
unfoldable pub open_block : List (List ℕ) → Passing (Unit {0})
open_block names = λ s. Ok (after tt [] (record s { regions = opened names ∷ s.regions }))

-- the region of a block that defines these names, in small letters, beside parameters
unfoldable pub open_beside : Region → List (List ℕ) → Passing (Unit {0})
open_beside parameters names = λ s. Ok (after tt [] (record s { regions = opened_beside parameters names ∷ s.regions }))

-- the innermost region ends
unfoldable pub close_block : Passing Region
close_block = λ s. Ok (after (innermost s.regions) [] (record s { regions = outer s.regions }))

-- the region of the required identifiers
unfoldable pub open_required : Passing (Unit {0})
open_required = λ s. Ok (after tt [] (record s { regions = required_region ∷ s.regions }))

-- the definition of a name
unfoldable pub declare : Name → Denotation → Passing (Unit {0})
declare name denotation = λ s.
    and_then (told name.place (define (folded name.text.now) denotation s.regions))
    (λ regions. Ok (after tt [] (record s { regions = regions })))

-- a rule that the form of a type breaks, at its place
abbrev pub refused : TypeRefusal → Place → TypeFault
refused (refusal.Memory _) place = fault.Memory the_refusal
refused refusal.FirstAboveLast place = fault.FirstAboveLast place
refused refusal.TooManyCells place = fault.TooManyCells place
refused refusal.MembersOutOfRange place = fault.MembersOutOfRange place

-- what the table answers, at a place
abbrev pub added : Place → Result TypeId TypeRefusal → Checked TypeId
added place (Ok id) = Ok id
added place (Err rule) = Err (refused rule place)

-- a type of its own, by its form; the rule that the form breaks is told at the place
unfoldable pub add_type : Place → Form → Passing TypeId
add_type place form = λ s.
    and_then (added place (admitted s.types form))
    (λ id. Ok (after id [] (record s { types = s.types ++ form ∷ [] })))

-- the host type of a type
unfoldable pub host_type : TypeId → Passing TypeId
host_type id = λ s. Ok (after (host_of s.types id) [] s)

-- the characters of a string that a constant is, by the number that they get
unfoldable pub keep_text : List ℕ → Passing ℕ
keep_text characters = λ s. Ok (after (length s.texts) [] (record s { texts = s.texts ++ characters ∷ [] }))

-- the characters that have a number
unfoldable pub text_at : ℕ → Passing (List ℕ)
text_at number = λ s. Ok (after (get_or s.texts number []) [] s)

-- the place of the latest token that was passed
unfoldable pub latest : Passing Place
latest = λ s. Ok (after s.latest [] s)

-- whether a file is a program parameter
abbrev pub has_file : File → Passed → Bool
has_file file.Input s = s.has_input
has_file file.Output s = s.has_output

abbrev pub with_file : File → Passed → Passed
with_file file.Input s = record s { has_input = true }
with_file file.Output s = record s { has_output = true }

-- a file is a program parameter
unfoldable pub give_file : File → Passing (Unit {0})
give_file one = λ s. Ok (after tt [] (with_file one s))

-- what uses a file needs it as a program parameter
unfoldable pub wants_file : File → Place → Passing (Unit {0})
wants_file one place = λ s. if has_file one s then Ok (after tt [] s) else Err (fault.NotProgramParameter place)

-- the root number of the next variable; one too many is told at its name
unfoldable pub next_root : Place → Passing ℕ
next_root place = λ s.
    if nat_le most_numbered (length s.variables) then Err (fault.TooMany place)
    else Ok (after (length s.variables) [] s)

-- a variable more of a block, where the block has room for its cells; else it is told at the variable's name
unfoldable pub reserve : Place → ℕ → VariableKind → TypeId → Passing (Unit {0})
reserve place block kind type_id = λ s.
    if nat_lt most_cells (s.enclosing.cells + cells_of s.types type_id) then Err (fault.TooManyCells place)
    else Ok (after tt [] (record s {
      variables = s.variables ++ record { block = block; type_id = type_id; kind = kind } ∷ [];
      enclosing = record (s.enclosing) { cells = s.enclosing.cells + cells_of s.types type_id };
    }))

-- ---- blocks

-- the block round the place
unfoldable pub enclosing_now : Passing Enclosing
enclosing_now = λ s. Ok (after s.enclosing [] s)

-- another block is passed from here on, or again
unfoldable pub with_enclosing : Enclosing → Passing (Unit {0})
with_enclosing enclosing = λ s. Ok (after tt [] (record s { enclosing = enclosing }))

-- a routine may be declared in a block, if the blocks are not nested too deep then; else it is told at its name
unfoldable pub may_nest : Place → Passing (Unit {0})
may_nest place = λ s.
    if nat_lt (length s.enclosing.around + 1) most_blocks then Ok (after tt [] s) else Err (fault.NestedTooDeep place)

-- the number of the next block; a program has no more blocks than statements, and one too many is told at its name
unfoldable pub next_block : Place → Passing ℕ
next_block place = λ s.
    if nat_le most_numbered (length s.headings) then Err (fault.TooMany place) else Ok (after (length s.headings) [] s)

-- a heading was passed
unfoldable pub add_heading : Headed → Passing (Unit {0})
add_heading heading = λ s. Ok (after tt [] (record s { headings = s.headings ++ heading ∷ [] }))

-- the heading of a block, by its number
unfoldable pub heading_at : ℕ → Passing Headed
heading_at number = λ s. Ok (after (get_or s.headings number program_heading) [] s)

-- the variable of a root
unfoldable pub variable_at : ℕ → Passing (Option Variable)
variable_at root = λ s. Ok (after (slice_get s.variables root) [] s)

-- a result is assigned
unfoldable pub assign_result : ℕ → Passing (Unit {0})
assign_result root = λ s. Ok (after tt [] (record s { assigned = with_one s.assigned root }))

-- a result is assigned somewhere before the place; else it is told at the function's name
unfoldable pub is_assigned : Place → ℕ → Passing (Unit {0})
is_assigned place root = λ s.
    if list_any (nat_eq root) s.assigned then Ok (after tt [] s) else Err (fault.NeverAssigned place)
