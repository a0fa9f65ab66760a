-- The typing of expressions (ISO 7185:1990, 6.5, 6.7): of each form the first rule that it breaks, or its type, how its
-- typed form looks, its sites and its points. What asks for a site of its own at an expression's first token (a width)
-- hands its kind in, as the leading kind: that site stands behind the token's own, and before all others. It says
-- nothing of what a program does.
use Rattle.std.specs.Prelude.{ℕ, ◌+◌, Bool, true, false, not, List, [], ◌∷◌, ◌++◌, Option, Some, None}
use Rattle.std.specs.Prelude.{Ok, Err, pos, if◌then◌else◌, nat_eq, length, option_map}
use Rattle.std.specs.Prelude.{slice_get}
use Rattle.place.specs.declared.Place.{Place}
use Rattle.syntax_tree.specs.declared.Name.{Name}
use Rattle.syntax_tree.specs.declared.Sign.{Sign}
use Rattle.syntax_tree.specs.declared.Operator.{Operator}
use Rattle.syntax_tree.specs.declared.Operator.TheVariants as op
use Rattle.syntax_tree.specs.declared.RelationalOperator.{RelationalOperator}
use Rattle.syntax_tree.specs.declared.Expr.{Expr}
use Rattle.syntax_tree.specs.declared.Link.{Link}
use Rattle.syntax_tree.specs.declared.Actual.{Actual}
use Rattle.syntax_tree.specs.declared.Selector.{Selector}
use Rattle.syntax_tree.specs.declared.Selector.TheVariants as select
use Rattle.syntax_tree.specs.declared.Expr.TheOpen.{Expr-F, Link-F, Actual-F}
use Rattle.syntax_tree.specs.declared.Expr.TheOpen.Expr-F.{Number as NumberOf, Name as NameOf, Call as CallOf}
use Rattle.syntax_tree.specs.declared.Expr.TheOpen.Expr-F.{Parenthesized as ParenthesizedOf, Not as NotOf}
use Rattle.syntax_tree.specs.declared.Expr.TheOpen.Expr-F.{Signed as SignedOf, Chain as ChainOf, String as StringOf}
use Rattle.syntax_tree.specs.declared.Expr.TheOpen.Expr-F.{Component as ComponentOf, Relation as RelationOf}
use Rattle.syntax_tree.specs.declared.Expr.TheOpen.Expr-F.{Set as SetOf}
use Rattle.syntax_tree.specs.Places.{members_of}
use Rattle.syntax_tree.specs.declared.Expr.TheFolds.{fold-Expr, fold-Link, fold-Actual}
use Rattle.types.specs.Forms.{Form, Array, Record}
use Rattle.types.specs.declared.form.RecordField.{RecordField}
use Rattle.types.specs.declared.form.ArrayElement.{ArrayElement}
use Rattle.types.specs.declared.form.TypeId.{TypeId}
use Rattle.types.specs.declared.form.TypeKind.{TypeKind}
use Rattle.types.specs.declared.form.TypeKind.TheVariants as kind_of_type
use Rattle.types.specs.declared.sets.SetBase.{SetBase}
use Rattle.types.specs.Types.{integer, boolean, char, is_same, is_compatible, kind_of}
use Rattle.types.specs.Types.{cells_of, element_of, field_of, form_at}
use Rattle.scopes.specs.declared.denotation.Denotation.{Denotation}
use Rattle.scopes.specs.declared.denotation.Denotation.TheVariants as denotes
use Rattle.scopes.specs.declared.denotation.File.{File}
use Rattle.scopes.specs.declared.denotation.File.TheVariants as file
use Rattle.scopes.specs.declared.denotation.InputFunction.{InputFunction}
use Rattle.scopes.specs.declared.denotation.InputFunction.TheVariants as asks
use Rattle.typed_tree.specs.declared.fault.TypeFault.TheVariants as fault
use Rattle.typed_tree.specs.declared.site.SiteKind.{SiteKind}
use Rattle.typed_tree.specs.declared.site.SiteKind.TheVariants as kind
use Rattle.typed_tree.specs.declared.tree.Monadic.{Monadic}
use Rattle.typed_tree.specs.declared.tree.Monadic.TheVariants as monadic
use Rattle.typed_tree.specs.declared.tree.Calculation.TheVariants as calculation
use Rattle.typed_tree.specs.declared.tree.Dyadic.{Dyadic}
use Rattle.typed_tree.specs.declared.tree.Dyadic.TheVariants as dyadic
use Rattle.typed_tree.specs.declared.tree.Designator.{Designator}
use Rattle.typed_tree.specs.declared.tree.Designator.TheVariants as designator
use Rattle.typed_tree.specs.declared.tree.InputTest.{InputTest}
use Rattle.typed_tree.specs.declared.tree.InputTest.TheVariants as test
use Rattle.typed_tree.specs.declared.tree.Scalar.TheVariants as scalar
use Rattle.typed_tree.specs.declared.tree.Selector.{Selector as TreeSelector}
use Rattle.typed_tree.specs.declared.tree.Selector.TheVariants as tree
use Rattle.typed_tree.specs.declared.tree.Variable.{Variable}
use Rattle.typed_tree.specs.Accesses.{Origin, AtVariable, AtRecord, index_count, root_of}
use Rattle.typed_tree.specs.WellFormed.{is_variable_kind, members_wanted}
use Rattle.typed_tree.specs.Look.{Constant, Text, Access, Value, WholeValue, Operation, Applied, Begins, Compared, Ends}
use Rattle.typed_tree.specs.Look.{Calls, Called, Constructs, Constructed, ForValue, ForVariable, ForWhole}
use Rattle.typed_tree.specs.Look.{Input, Operator as OperatorMark, Reads}
use Rattle.typing_rules.specs.declared.typed.Typed.{Typed}
use Rattle.typing.specs.Passing.{OpenRecord, Passing, pure, fail, given, by_types, mark}
use Rattle.typing_rules.specs.Checked.{Checked}
use Rattle.typing.specs.Passing.{◌>>=◌, ◌>>◌, ◌>>?◌}
use Rattle.typing.specs.Steps.{pass, enter_as, site, find, heading_at, host_type, may_change}
use Rattle.typing_rules.specs.Checked.{fits, or_mismatch}
use Rattle.typing.specs.Steps.{record_at}
use Rattle.typing.specs.Steps.{text_at, value_of, variable_at}
use Rattle.typing.specs.Names.{folded}
use Rattle.typing.specs.Functions.{begins_as, applied}
use Rattle.typing.specs.Strings.{string_characters, string_type}
use Rattle.typing.specs.Steps.{point, wants_file}
use Rattle.typing_rules.specs.Typed.{typed, typed_set, typed_text, typed_variable, is_scalar_value, is_ordinal_of}
use Rattle.typing_rules.specs.Typed.{is_of}
use Rattle.typing_rules.specs.Operators.{sign_operation, result_of, set_operation_behind, relation_behind_value}
use Rattle.typing_rules.specs.Operators.{may_relate, member_of, member_with_site}
use Rattle.typing_rules.specs.Denotations.{as_file, as_function}
use Rattle.typing_rules.specs.Targets.{fitting, Copy, whole_copy, copying, members_test, read_as}

-- an expression as it is typed: its first token, by the leading kind what it is, how it is passed to a variable
-- parameter of a type, of the callee's block and at a place among its parameters, how it is read, and the file that it
-- names, if it is the name of one
pub record Written : Type 0 where
  pub first : Place
  pub typing : Option SiteKind → Passing Typed
  pub passing : TypeId → ℕ → ℕ → Passing (Unit {0})
  pub reading : Passing (Unit {0})
  pub file : Passing (Option File)

-- an actual: its value, and its width if there is one
pub record WrittenActual : Type 0 where
  pub value : Written
  pub width : Option Written

-- an operator and its right operand: from what stands to its left to the result, which has the same leading site
abbrev pub WrittenLink : Type 0
WrittenLink = Typed → Passing Typed

-- the leading site at an expression's first token, if there is one
unfoldable pub behind : Option SiteKind → Place → Passing (Option ℕ)
behind None place = pure None
behind (Some kind) place = site kind place >>= (λ id. pure (Some id))

-- a number, which is at most maxint
unfoldable pub number : ℕ → Place → Option SiteKind → Passing Typed
number value place lead = do
  pass place
  given (value_of value place)
  id ← behind lead place
  enter_as (λ n. Constant n (pos value))
  pure (typed integer id)

-- the value of a string: one character is a constant of type char, more are a string of a type of its own
unfoldable pub spelled : Place → Option ℕ → List ℕ → Passing Typed
spelled place id (c ∷ []) = do
  enter_as (λ n. Constant n (pos c))
  pure (typed char id)
spelled place id characters = do
  type_id ← string_type place (length characters)
  enter_as (λ n. Text n characters)
  pure (typed_text type_id (length characters) id)

-- a string (6.1.7)
unfoldable pub string : List ℕ → Place → Option SiteKind → Passing Typed
string text place lead = do
  pass place
  id ← behind lead place
  characters ← given (string_characters place text)
  spelled place id characters

-- ---- variables

-- where an access begins that a name denotes: at a variable, or at a record of a with, of this type; the selectors to
-- what the name denotes, and the type of that
pub record Denoted : Type 0 where
  pub origin : Origin
  pub from : TypeId
  pub selectors : List TreeSelector
  pub type_id : TypeId

-- a variable by its root and its type
abbrev pub entire : ℕ → TypeId → Denoted
entire root type_id = record { origin = AtVariable root; from = type_id; selectors = []; type_id = type_id }

-- a field of the record of a slot; there is one
abbrev pub field_variable : ℕ → TreeSelector → TypeId → OpenRecord → Denoted
field_variable slot selector type_id opened = record {
  origin = AtRecord opened.root slot opened.steps;
  from = opened.type_id;
  selectors = selector ∷ [];
  type_id = type_id;
}

abbrev pub field_or_none : Place → ℕ → TreeSelector → TypeId → Option OpenRecord → Checked Denoted
field_or_none place slot selector type_id None = Err (fault.NotVariable place)
field_or_none place slot selector type_id (Some opened) = Ok (field_variable slot selector type_id opened)

-- the variable, or the field of a record, that a name denotes; K2 where it denotes none
abbrev pub variable_of : Place → Denotation → Passing Denoted
variable_of place (denotes.Variable root type_id) = pure (entire root type_id)
variable_of place (denotes.Field slot position offset type_id) =
    record_at slot >>? (λ types found. field_or_none place slot (tree.Field position offset) type_id found)
variable_of place (denotes.Constant value type_id) = fail (fault.NotVariable place)
variable_of place (denotes.Text number type_id) = fail (fault.NotVariable place)
variable_of place (denotes.TypeName type_id) = fail (fault.NotVariable place)
variable_of place (denotes.Procedure procedure) = fail (fault.NotVariable place)
variable_of place (denotes.Function function) = fail (fault.NotVariable place)
variable_of place (denotes.Routine block is_function) = fail (fault.NotVariable place)
variable_of place (denotes.InputFunction function) = fail (fault.NotVariable place)
variable_of place (denotes.File file) = fail (fault.NotVariable place)

abbrev pub or_not_declared : Place → Option RecordField → Checked RecordField
or_not_declared place (Some field) = Ok field
or_not_declared place None = Err (fault.NotDeclared place)

-- the field of a name in a value of a type: K1 where the type is no record, S3 where it has no such field
abbrev pub field_in : List Form → TypeId → Name → Option Form → Checked RecordField
field_in types id name (Some (Record packed fields)) =
    or_not_declared name.place (field_of types id (folded name.text.now))
field_in types id name form = Err (fault.Mismatch name.place)

abbrev pub field_named : List Form → TypeId → Name → Checked RecordField
field_named types id name = field_in types id name (form_at types id)

-- an index of elements, by the id of its site, which stands at its first token, before those of its own; K1 there where
-- it isn't of the index type (6.5.3.2)
unfoldable pub index : ArrayElement → Written → Passing ℕ
index element w = do
  id ← site kind.Index w.first
  w.typing None >>? (λ types t. fits (is_ordinal_of (is_compatible types element.index) t) w.first id)

-- the selectors of an access, behind those before, from a value of a type to a component, and that component's type; K1
-- at a selector where the type has none of its kind (6.5.3)
abbrev pub selected : List TreeSelector → TypeId → List Selector → List Written → Passing (List TreeSelector × TypeId)
selected before type_id [] indexes = pure (before, type_id)
selected before type_id (select.Field name ∷ selectors) indexes = do
  pass name.place
  f ← by_types (λ types. field_named types type_id name)
  selected (before ++ tree.Field f.position f.offset ∷ []) f.type_id selectors indexes
selected before type_id (select.Index place joined ∷ selectors) [] = fail (fault.Mismatch place)
selected before type_id (select.Index place joined ∷ selectors) (w ∷ indexes) = do
  pass place
  e ← by_types (λ types. or_mismatch place (element_of types type_id))
  id ← index e w
  selected (before ++ tree.Element (record { site = id; tests = scalar.Ordinal; range = e.range }) e.cells ∷ [])
      e.type_id selectors indexes

-- the kind of a type
unfoldable pub kind_now : TypeId → Passing (Option TypeKind)
kind_now id = by_types (λ types. Ok (kind_of types id))

-- the value of what is accessed, an ordinal, which is of the host type (6.7.1)
unfoldable pub ordinal_value : Origin → List TreeSelector → TypeId → ℕ → Option ℕ → Passing Typed
ordinal_value origin selectors type_id defined lead = do
  mark (Value origin selectors (index_count selectors) scalar.Ordinal defined)
  host ← host_type type_id
  pure (typed host lead)

-- the same of a set type, of these sets
unfoldable pub set_value : SetBase → Origin → List TreeSelector → TypeId → ℕ → Option ℕ → Passing Typed
set_value base origin selectors type_id defined lead = do
  mark (Value origin selectors (index_count selectors) scalar.Set defined)
  pure (typed_set base lead)

-- the same of a structured type
unfoldable pub whole_value : Origin → List TreeSelector → TypeId → ℕ → Option ℕ → Passing Typed
whole_value origin selectors type_id defined lead = do
  cells ← by_types (λ types. Ok (cells_of types type_id))
  mark (WholeValue origin selectors (index_count selectors) type_id cells defined)
  pure (typed_variable type_id cells lead)

-- the value of what is accessed, by the kind of its type
abbrev pub value_of_kind : Option TypeKind → Origin → List TreeSelector → TypeId → ℕ → Option ℕ → Passing Typed
value_of_kind (Some kind_of_type.Structured) = whole_value
value_of_kind (Some (kind_of_type.Set base members)) = set_value base
value_of_kind (Some (kind_of_type.Ordinal range)) = ordinal_value
value_of_kind None = ordinal_value

-- a variable, or a component of it, as an expression (6.5.1)
unfoldable pub accessed : Denoted → List Selector → List Written → Place → Option SiteKind → Passing Typed
accessed variable selectors indexes place lead = do
  defined ← site kind.UndefinedVariable place
  id ← behind lead place
  enter_as Access
  component ← selected variable.selectors variable.type_id selectors indexes
  found ← kind_now component.1
  value_of_kind found variable.origin component.0 component.1 defined id

-- a component of a variable
unfoldable pub component : Name → List Selector → List Written → Option SiteKind → Passing Typed
component name selectors indexes lead = do
  d ← find name
  variable ← variable_of name.place d
  accessed variable selectors indexes name.place lead

-- ---- variables that are passed

-- a type is packed
abbrev pub is_packed : Option Form → Bool
is_packed (Some (Array packed index element)) = packed
is_packed (Some (Record packed fields)) = packed
is_packed form = false

abbrev pub is_packed_at : List Form → Option TypeId → Bool
is_packed_at types None = false
is_packed_at types (Some id) = is_packed (form_at types id)

-- the type of the field at a place in a record of a form
abbrev pub type_of_field : ℕ → Option Form → Option TypeId
type_of_field position (Some (Record packed fields)) = option_map (λ field. field.type_id) (slice_get fields position)
type_of_field position form = None

-- the type of what a selector selects from a value of a type
abbrev pub type_selected : List Form → Option TypeId → TreeSelector → Option TypeId
type_selected types None selector = None
type_selected types (Some id) (tree.Element fits cells) = option_map (λ element. element.type_id) (element_of types id)
type_selected types (Some id) (tree.Field position offset) = type_of_field position (form_at types id)

-- the last of selectors, from a value of a type on, selects from a packed value; or else what stands before them does
abbrev pub is_of_packed : List Form → Option TypeId → Bool → List TreeSelector → Bool
is_of_packed types id before [] = before
is_of_packed types id before (selector ∷ selectors) =
    is_of_packed types (type_selected types id selector) (is_packed_at types id) selectors

-- a variable or a component of a type is passed where one of a type is needed: K1 where it isn't the same, K4 at a
-- component of a packed variable (6.6.3.3)
abbrev pub passable : List Form → TypeId → TypeId → List TreeSelector → TypeId → Place → Checked (Unit {0})
passable types wanted type_id selectors component place =
    if not (is_same wanted component) then Err (fault.Mismatch place)
    else if is_of_packed types (Some type_id) false selectors then Err (fault.PackedComponent place)
    else Ok tt

-- what is accessed is passed to a variable parameter of a type
unfoldable pub passed_variable : Name → List Selector → List Written → TypeId → ℕ → ℕ → Passing (Unit {0})
passed_variable name selectors indexes wanted callee position = do
  d ← find name
  variable ← variable_of name.place d
  may_change name.place (root_of variable.origin)
  enter_as Access
  component ← selected variable.selectors variable.type_id selectors indexes
  by_types (λ types. passable types wanted variable.from component.0 component.1 name.place)
  mark (ForVariable wanted variable.origin component.0 (index_count component.0) callee position)

-- what is accessed is read, at a point at its first token
unfoldable pub read_variable : Name → List Selector → List Written → Passing (Unit {0})
read_variable name selectors indexes = do
  d ← find name
  variable ← variable_of name.place d
  may_change name.place (root_of variable.origin)
  id ← point name.place
  enter_as Access
  component ← selected variable.selectors variable.type_id selectors indexes
  read ← by_types (λ types. read_as types name.place component.1)
  mark (Reads variable.origin component.0 (index_count component.0) read.0 id read.1)

-- what is no variable isn't: K2 at its first token
unfoldable pub not_readable : Place → Passing (Unit {0})
not_readable place = fail (fault.NotVariable place)

-- what is no variable isn't: K2 at its first token
unfoldable pub no_variable : Place → TypeId → ℕ → ℕ → Passing (Unit {0})
no_variable place wanted callee position = fail (fault.NotVariable place)

-- ---- calls

-- an actual parameter has no width; K3 at its first token where it has
abbrev pub unless_width : Place → Option Written → Checked (Unit {0})
unless_width place None = Ok tt
unless_width place (Some width) = Err (fault.WrongParameters place)

-- a value for a value parameter of an ordinal type; its site stands at its first token, before those of its own
unfoldable pub passed_ordinal : TypeId → Written → ℕ → ℕ → Passing (Unit {0})
passed_ordinal type_id w callee position = do
  id ← site kind.Subrange w.first
  range ← w.typing None >>? (λ types t. or_mismatch w.first (fitting types type_id t))
  mark (ForValue (record { site = id; tests = scalar.Ordinal; range = range }) callee position)

-- the same of a set type; its site stands at its first token, behind those of its own
unfoldable pub passed_set : TypeId → Written → ℕ → ℕ → Passing (Unit {0})
passed_set type_id w callee position = do
  test ← w.typing (Some kind.SetMember) >>? (λ types t. members_test types type_id w.first t)
  mark (ForValue test callee position)

-- the same of a structured type
unfoldable pub passed_whole : TypeId → Written → ℕ → ℕ → Passing (Unit {0})
passed_whole type_id w callee position = do
  copy ← w.typing None >>? (λ types t. or_mismatch w.first (copying types type_id t))
  mark (ForWhole type_id copy.source copy.cells callee position)

-- a value for a value parameter of a type of a kind
abbrev pub passed_by_kind : Option TypeKind → TypeId → Written → ℕ → ℕ → Passing (Unit {0})
passed_by_kind (Some kind_of_type.Structured) = passed_whole
passed_by_kind (Some (kind_of_type.Set base members)) = passed_set
passed_by_kind (Some (kind_of_type.Ordinal range)) = passed_ordinal
passed_by_kind None = passed_ordinal

unfoldable pub passed_value : TypeId → Written → ℕ → ℕ → Passing (Unit {0})
passed_value type_id w callee position = do
  found ← kind_now type_id
  passed_by_kind found type_id w callee position

-- an actual parameter, by what the formal one is; there is no other at its place
abbrev pub passed_to : Option Variable → Written → ℕ → ℕ → Passing (Unit {0})
passed_to None w callee position = fail (fault.WrongParameters w.first)
passed_to (Some formal) w callee position =
    (if is_variable_kind formal.kind then w.passing formal.type_id
    else passed_value formal.type_id w) callee position

unfoldable pub actual : WrittenActual → ℕ → ℕ → ℕ → Passing (Unit {0})
actual a root callee position = do
  given (unless_width a.value.first a.width)
  formal ← variable_at root
  passed_to formal a.value callee position

-- actual parameters for formal ones, by their roots, from a place on; there are as many
abbrev pub actuals_for : List ℕ → List WrittenActual → ℕ → ℕ → Passing (Unit {0})
actuals_for [] actuals callee position = pure tt
actuals_for (root ∷ roots) [] callee position = pure tt
actuals_for (root ∷ roots) (a ∷ actuals) callee position =
    actual a root callee position >> actuals_for roots actuals callee (position + 1)

abbrev pub are_as_many : Place → ℕ → ℕ → Checked (Unit {0})
are_as_many place actuals formals = if nat_eq actuals formals then Ok tt else Err (fault.WrongParameters place)

-- a call of a block, a function's or a procedure's: K3 at the name where the number of actual parameters is wrong
unfoldable pub routine_call : Bool → ℕ → Place → List WrittenActual → Passing (Option ℕ)
routine_call is_function callee place actuals = do
  enter_as (λ n. Calls n place callee)
  heading ← heading_at callee
  given (are_as_many place (length actuals) (length heading.parameters))
  actuals_for heading.parameters actuals callee 0
  mark (Called is_function callee (length actuals))
  pure heading.result

abbrev pub or_no_result : Place → Option Variable → Checked Variable
or_no_result place (Some result) = Ok result
or_no_result place None = Err (fault.WrongParameters place)

-- the variable that is the result of a function
abbrev pub result_variable : Option ℕ → Passing (Option Variable)
result_variable None = pure None
result_variable (Some root) = variable_at root

-- the value of a function, which is of the host type (6.7.3); K3 at the name of a procedure
unfoldable pub function_value : ℕ → Bool → Place → List WrittenActual → Option SiteKind → Passing Typed
function_value callee false place actuals lead = fail (fault.WrongParameters place)
function_value callee true place actuals lead = do
  pass place
  id ← behind lead place
  root ← routine_call true callee place actuals
  found ← result_variable root
  result ← given (or_no_result place found)
  host ← host_type result.type_id
  pure (typed host id)

abbrev pub without_width : Place → Written → Option Written → Checked Written
without_width place value None = Ok value
without_width place value (Some width) = Err (fault.WrongParameters place)

-- the one actual of a function, which has no width
abbrev pub only : Place → List WrittenActual → Checked Written
only place [] = Err (fault.WrongParameters place)
only place (actual ∷ []) = without_width place actual.value actual.width
only place (actual ∷ another ∷ others) = Err (fault.WrongParameters place)

-- ---- the input (6.6.6.5)

-- what a function asks of the input; eoln has a point at its name
unfoldable pub input_test : InputFunction → Place → Passing InputTest
input_test asks.Eof place = pure test.End
input_test asks.Eoln place = point place >>= (λ id. pure (test.LineEnd id))

-- the value of such a function, at its name; K8 there where input is no program parameter
unfoldable pub input_value : InputFunction → Place → Option SiteKind → Passing Typed
input_value function place lead = do
  pass place
  wants_file file.Input place
  id ← behind lead place
  asked ← input_test function place
  enter_as (λ n. Input n asked)
  pure (typed boolean id)

-- its one actual is the name of the file input; K3 at the function's name where it isn't
abbrev pub is_input : Place → Option File → Checked (Unit {0})
is_input place (Some file.Input) = Ok tt
is_input place other = Err (fault.WrongParameters place)

unfoldable pub input_call : InputFunction → Place → List WrittenActual → Option SiteKind → Passing Typed
input_call function place actuals lead = do
  actual ← given (only place actuals)
  named ← actual.file
  given (is_input place named)
  input_value function place lead

-- ---- names

-- a name as an expression: a constant, a variable, or a function without parameters
unfoldable pub denoted : Denotation → Place → Option SiteKind → Passing Typed
denoted (denotes.Constant value type_id) place lead = do
  id ← behind lead place
  enter_as (λ n. Constant n value)
  pure (typed type_id id)
denoted (denotes.Text number type_id) place lead = do
  id ← behind lead place
  characters ← text_at number
  enter_as (λ n. Text n characters)
  pure (typed_text type_id (length characters) id)
denoted (denotes.Variable root type_id) place lead = accessed (entire root type_id) [] [] place lead
denoted (denotes.Field slot position offset type_id) place lead =
    variable_of place (denotes.Field slot position offset type_id)
    >>= (λ variable. accessed variable [] [] place lead)
denoted (denotes.Procedure procedure) place lead = fail (fault.WrongParameters place)
denoted (denotes.Function function) place lead = fail (fault.WrongParameters place)
denoted (denotes.Routine block is_function) place lead = function_value block is_function place [] lead
denoted (denotes.TypeName type_id) place lead = fail (fault.Mismatch place)
denoted (denotes.InputFunction function) place lead = input_value function place lead
denoted (denotes.File file) place lead = fail (fault.Mismatch place)

unfoldable pub named : Name → Option SiteKind → Passing Typed
named name lead = find name >>= (λ d. denoted d name.place lead)

-- an expression in parentheses
unfoldable pub parenthesized : Place → Written → Option SiteKind → Passing Typed
parenthesized place inner lead = do
  pass place
  id ← behind lead place
  inner.typing None >>? (λ types t. Ok (record t { site = id }))

-- an operation before an operand of a type, which its result is of too
unfoldable pub prefixed : TypeId → Monadic → Place → Written → Option SiteKind → Passing Typed
prefixed type_id does place operand lead = do
  pass place
  id ← behind lead place
  enter_as Operation
  operand.typing None >>? (λ types t. fits (is_of type_id t) place t)
  mark (Applied does)
  pure (typed type_id id)

-- `not` and its operand
abbrev pub negation : Place → Written → Option SiteKind → Passing Typed
negation = prefixed boolean (monadic.Plain calculation.Complement)

-- a sign and the term that it covers
abbrev pub signed : Sign → Place → Written → Option SiteKind → Passing Typed
signed sign = prefixed integer (sign_operation sign)

-- ---- operators between operands (6.7.2)

-- an operation with a site at its operator
unfoldable pub tested : (ℕ → Dyadic) → SiteKind → Place → Passing Dyadic
tested operation kind place = site kind place >>= (λ id. pure (operation id))

-- the operation of an operator, with its site
unfoldable pub operation : Operator → Place → Passing Dyadic
operation op.Plus place = tested dyadic.Plus kind.Overflow place
operation op.Minus place = tested dyadic.Minus kind.Overflow place
operation op.Or place = pure dyadic.Or
operation op.Times place = tested dyadic.Times kind.Overflow place
operation op.Div place = tested dyadic.Div kind.DivisionByZero place
operation op.Mod place = tested dyadic.Mod kind.ModByZeroOrLess place
operation op.And place = pure dyadic.And

unfoldable pub operation_or : Option Dyadic → Operator → Place → Passing Dyadic
operation_or None operator place = operation operator place
operation_or (Some does) operator place = pure does

abbrev pub operation_behind : Operator → Place → Typed → Passing Dyadic
operation_behind operator place left = operation_or (set_operation_behind operator left.value) operator place

-- an operator and its right operand, where the left one is known: by both it has its site or none, before the sites of
-- the right one; K1 at the operator where it doesn't take the operands
unfoldable pub link : Operator → Place → Written → WrittenLink
link operator place operand left = do
  tests ← operation_behind operator place left
  enter_as (λ n. OperatorMark n tests)
  result ← operand.typing None >>? (λ types right. or_mismatch place (result_of operator left.value right.value))
  pure (record { value = result; site = left.site })

-- operators of one precedence, from left to right
abbrev pub links : Typed → List WrittenLink → Passing Typed
links left [] = pure left
links left (l ∷ ls) = l left >>= (λ t. links t ls)

-- a first operand, and what stands behind it
abbrev pub begun_by : Written → (Typed → Passing Typed) → Option SiteKind → Passing Typed
begun_by first behind_it lead = do
  mark Begins
  f ← first.typing lead
  behind_it f

-- the operators of a chain behind its first operand, which begins at a place: a scalar, as the others are
abbrev pub chain_behind : Place → List WrittenLink → Typed → Passing Typed
chain_behind place rest f = do
  t ← links f rest
  given (fits (is_scalar_value f.value) place t)
  mark Ends
  pure (record t { site = f.site })

unfoldable pub chain : Written → List WrittenLink → Option SiteKind → Passing Typed
chain first rest = begun_by first (chain_behind first.first rest)

-- two strings are compared
unfoldable pub compares : Option Copy → Option Copy → Passing (Unit {0})
compares (Some left) (Some right) = mark (Compared left.source left.cells right.source right.cells)
compares left right = pure tt

-- a relation (6.7.2.5) behind its left operand, which has no site; K1 at its operator where it doesn't relate its
-- operands
abbrev pub relation_behind : RelationalOperator → Place → Written → Typed → Passing Typed
relation_behind operator place right l = do
  does ← given (or_mismatch place (relation_behind_value operator l.value))
  enter_as (λ n. OperatorMark n does)
  r ← right.typing None >>? (λ types t. fits (may_relate types operator l t) place t)
  compares (whole_copy l.value) (whole_copy r.value)
  mark Ends
  pure (typed boolean l.site)

unfoldable pub relation : Written → RelationalOperator → Place → Written → Option SiteKind → Passing Typed
relation left operator place right = begun_by left (relation_behind operator place right)

-- ---- set constructors (6.7.1)

-- a member that stands alone, or first in a range; its site stands at its first token, behind those of its own
unfoldable pub first_member : Option TypeId → Written → Passing (ℕ × TypeId)
first_member host w = w.typing (Some kind.SetMember) >>? (λ types t. member_with_site host w.first t)

-- the last one of a range
unfoldable pub last_member : Option TypeId → Written → Passing TypeId
last_member host w = w.typing None >>? (λ types t. member_of host w.first t)

-- what a member is given by, and the host type of the set's members
unfoldable pub member : Option TypeId → Written → Option Written → Passing (Designator × TypeId)
member host first None = do
  m ← first_member host first
  pure (designator.Single m.0, m.1)
member host first (Some last) = do
  m ← first_member host first
  type_id ← last_member (Some m.1) last
  pure (designator.Range m.0, type_id)

-- those of all members, behind others
abbrev pub members : List Designator → Option TypeId → List (Written × Option Written)
    → Passing (List Designator × Option TypeId)
members made host [] = pure (made, host)
members made host (m ∷ ms) =
    member host m.0 m.1 >>= (λ one. members (made ++ one.0 ∷ []) (Some one.1) ms)

-- a set constructor: its members are of one host type, and it is packed or not, as it is needed
unfoldable pub constructed : Place → List (Written × Option Written) → Option SiteKind → Passing Typed
constructed place ms lead = do
  pass place
  id ← behind lead place
  enter_as Constructs
  made ← members [] None ms
  mark (Constructed made.0 (members_wanted made.0))
  pure (typed_set (record { host = made.1; packed = None }) id)

-- the call of a required function; what it does depends on its argument's type, and is told behind that
unfoldable pub required_call : Denotation → Name → List WrittenActual → Option SiteKind → Passing Typed
required_call d name actuals lead = do
  f ← given (as_function name.place d)
  operation ← begins_as f.does name.place
  id ← behind lead name.place
  enter_as Operation
  actual ← given (only name.place actuals)
  does ← actual.typing None >>? (λ types t. applied types f operation actual.first t)
  mark (Applied does.0)
  pure (typed does.1 id)

abbrev pub call_by : Denotation → Name → List WrittenActual → Option SiteKind → Passing Typed
call_by (denotes.Routine block is_function) name actuals lead =
    function_value block is_function name.place actuals lead
call_by (denotes.InputFunction function) name actuals lead = input_call function name.place actuals lead
call_by d name actuals lead = required_call d name actuals lead

-- the call of a function
unfoldable pub call : Name → List WrittenActual → Option SiteKind → Passing Typed
call name actuals lead = find name >>= (λ d. call_by d name actuals lead)

-- an expression that is no variable
abbrev pub written : Place → (Option SiteKind → Passing Typed) → Written
written first typing = record {
  first = first;
  typing = typing;
  passing = no_variable first;
  reading = not_readable first;
  file = pure None;
}

-- the file that a name without selectors denotes
unfoldable pub file_named : Name → List Selector → Passing (Option File)
file_named name [] = find name >>= (λ d. pure (as_file d))
file_named name (selector ∷ selectors) = pure None

-- a variable, or a component of one
abbrev pub written_variable : Name → List Selector → List Written → (Option SiteKind → Passing Typed) → Written
written_variable name selectors indexes typing = record {
  first = name.place;
  typing = typing;
  passing = passed_variable name selectors indexes;
  reading = read_variable name selectors indexes;
  file = file_named name selectors;
}

abbrev pub actual_step : Actual-F Written WrittenActual WrittenLink → WrittenActual
actual_step actual = record { value = actual.value; width = actual.width }

abbrev pub link_step : Link-F Written WrittenActual WrittenLink → WrittenLink
link_step l = link l.operator l.place l.operand

abbrev pub expression_step : Expr-F Written WrittenActual WrittenLink → Written
expression_step (NumberOf value place) = written place (number value place)
expression_step (NameOf name) = written_variable name [] [] (named name)
expression_step (ComponentOf name selectors indexes) =
    written_variable name selectors.items indexes.items (component name selectors.items indexes.items)
expression_step (StringOf text place) = written place (string text.now place)
expression_step (CallOf name actuals) = written name.place (call name actuals.items)
expression_step (ParenthesizedOf place inner) = written place (parenthesized place inner.value)
expression_step (NotOf place operand) = written place (negation place operand.value)
expression_step (SignedOf sign place term) = written place (signed sign place term.value)
expression_step (ChainOf first rest) = written first.value.first (chain first.value rest.items)
expression_step (RelationOf left operator place right) =
    written left.value.first (relation left.value operator place right.value)
expression_step (SetOf place designators values) =
    written place (constructed place (members_of designators.items values.items))

-- an expression
abbrev pub expression : Expr → Written
expression = fold-Expr Written WrittenActual WrittenLink expression_step actual_step link_step

-- an operator and its right operand
abbrev pub written_link : Link → WrittenLink
written_link = fold-Link Written WrittenActual WrittenLink expression_step actual_step link_step

-- an actual
abbrev pub written_actual : Actual → WrittenActual
written_actual = fold-Actual Written WrittenActual WrittenLink expression_step actual_step link_step
