-- What the definitions of the meaning see of the data that an interpreter keeps: places, what is in hand, where the
-- variables lie that are visible in an activation, and the input that is left.
-- It says nothing of when activations begin and end.
use Rattle.std.specs.Prelude.{ℕ, ℤ, pos, Bool, List, [], ◌∷◌, ◌++◌, Option, Some, None, Result, Ok, Err}
use Rattle.std.specs.Prelude.{if◌then◌else◌, map, nat_eq, option_map, slice_get}
use Rattle.text_input.specs.declared.InputFault.{InputFault}
use Rattle.text_input.specs.declared.InputFault.TheVariants as fault
use Rattle.text_input.specs.Input.{Reading, Reads, Fails, Ends, read_character, read_integer}
use Rattle.typed_tree.specs.declared.tree.Readable.{Readable}
use Rattle.typed_tree.specs.declared.tree.Readable.TheVariants as readable
use Rattle.typed_tree.specs.Accesses.{Origin, AtVariable, AtRecord}
use Rattle.typed_tree.specs.declared.tree.Variable.{Variable as DeclaredVariable}
use Rattle.typed_tree.specs.declared.tree.VariableKind.{VariableKind}
use Rattle.typed_tree.specs.declared.tree.VariableKind.TheVariants as kind
use Rattle.meaning.specs.declared.value.Value.{Value}
use Rattle.meaning.specs.declared.value.Value.TheVariants.{Number}
use Rattle.meaning.specs.Store.{Place}
use Rattle.meaning.specs.Meaning.{Argument, OfValue, OfRow, OfPlace, own_place, place_at, place_passed}
use Rattle.interpreter_state.specs.declared.input.Input.{Input}
use Rattle.interpreter_state.specs.declared.store.Place.{Place as KeptPlace}
use Rattle.interpreter_state.specs.declared.operand.Operand.{Operand}
use Rattle.interpreter_state.specs.declared.operand.Operand.TheVariants as operand
use Rattle.interpreter_state.specs.declared.activation.Reference.{Reference}
use Rattle.interpreter_state.specs.declared.activation.Seen.{Seen}
use Rattle.interpreter_state.specs.declared.activation.Activation.{Activation}

-- a place that the interpreter keeps
abbrev pub place_seen : KeptPlace → Place
place_seen p = record { activation = p.activation; variable = p.variable; steps = p.steps.items }

-- what the interpreter has in hand: a value, a place that is accessed, if there is one, or the values of a whole one
abbrev pub operand_seen : Operand → Argument
operand_seen (operand.Value v) = OfValue v
operand_seen (operand.Place place) = OfPlace (option_map place_seen place)
operand_seen (operand.Row row) = OfRow row.items

-- what is in hand as a value or a row; what is pending finds those that it needs
abbrev pub value_in : Argument → Value
value_in (OfValue v) = v
value_in (OfPlace place) = Number (pos 0)
value_in (OfRow row) = Number (pos 0)

abbrev pub row_in : Argument → List Value
row_in (OfValue v) = []
row_in (OfPlace place) = []
row_in (OfRow row) = row

-- an activation whose variables are visible: its block and its number, and the place that was passed for each of its
-- formal parameters
pub record Visible : Type 0 where
  pub block : ℕ
  pub number : ℕ
  pub references : List (ℕ × Option Place)

abbrev pub reference_seen : Reference → ℕ × Option Place
reference_seen reference = (reference.root, option_map place_seen reference.place)

abbrev pub seen_as : Seen → Visible
seen_as seen =
    record { block = seen.block; number = seen.number; references = map reference_seen seen.references.items }

abbrev pub visible_in : Activation → List Visible
visible_in activation = map seen_as activation.visible.items

-- where the records lie of the with statements that are executed in an activation
abbrev pub records_in : Activation → List (Option Place)
records_in activation = map (option_map place_seen) activation.records.items

-- the places that are passed for formal parameters; each argument stands at the place of its parameter
abbrev pub pairs_passed : List ℕ → List Argument → List (ℕ × Option Place)
pairs_passed [] arguments = []
pairs_passed (root ∷ roots) [] = []
pairs_passed (root ∷ roots) (argument ∷ arguments) = (root, place_passed argument) ∷ pairs_passed roots arguments

-- the place that was passed for a formal parameter
abbrev pub passed_at : List (ℕ × Option Place) → ℕ → Option Place
passed_at [] root = None
passed_at (reference ∷ references) root =
    if nat_eq reference.0 root then reference.1 else passed_at references root

-- where a variable lies that the block of a visible activation declares
abbrev pub home_in : Visible → ℕ → VariableKind → Option Place
home_in seen root kind.VariableParameter = passed_at seen.references root
home_in seen root kind.Local = Some (own_place seen.number root)
home_in seen root kind.ValueParameter = Some (own_place seen.number root)
home_in seen root kind.Result = Some (own_place seen.number root)

-- where a variable lies that the block of one of them declares
abbrev pub declared_in : List Visible → ℕ → DeclaredVariable → Option Place
declared_in [] root variable = None
declared_in (seen ∷ others) root variable =
    if nat_eq variable.block seen.block then home_in seen root variable.kind else declared_in others root variable

-- where a variable lies, if it is visible
abbrev pub place_of : List Visible → ℕ → Option DeclaredVariable → Option Place
place_of visible root None = None
place_of visible root (Some variable) = declared_in visible root variable

-- the place at which an access begins in an activation, if there is one
abbrev pub start_of : Activation → List DeclaredVariable → Origin → Option Place
start_of activation variables (AtVariable root) =
    place_of (visible_in activation) root (slice_get variables root)
start_of activation variables (AtRecord root slot path) = place_at (slice_get (records_in activation) slot)

-- ---- the input

-- what is left of an input, with the line end that is supplied behind it
abbrev pub left_in : Input → List ℕ
left_in input = input.bytes.now ++ (if input.lacks_end then 10 ∷ [] else [])

-- what is wrong with the input
abbrev pub failed : {A : Type 0} → InputFault → Reading A
failed fault.EndOfInput = Ends
failed other = Fails other

-- what is read and what is left behind it, or what is wrong
abbrev pub told : Result (ℤ × Input) InputFault → Reading ℤ
told (Ok read) = Reads read.0 (left_in read.1)
told (Err why) = failed why

-- what is left behind a line, or what is wrong
abbrev pub passed : Result Input InputFault → Reading (Unit {0})
passed (Ok rest) = Reads tt (left_in rest)
passed (Err why) = failed why

-- what is so at the beginning of an input, or what is wrong
abbrev pub looked : Input → Result Bool InputFault → Reading Bool
looked input (Ok is_so) = Reads is_so (left_in input)
looked input (Err why) = failed why

-- a character by its ordinal number
abbrev pub by_number : Reading ℕ → Reading ℤ
by_number (Reads n rest) = Reads (pos n) rest
by_number (Fails why) = Fails why
by_number Ends = Ends

abbrev pub character_read : List ℕ → Reading ℤ
character_read bytes = by_number (read_character bytes)

-- what is read for a variable
abbrev pub read_by : Readable → List ℕ → Reading ℤ
read_by readable.Integer bytes = read_integer bytes
read_by readable.Char bytes = character_read bytes
