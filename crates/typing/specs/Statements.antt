-- The typing of statements (ISO 7185:1990, 6.8, 6.9): of each form the first rule that it breaks, or how its typed form
-- looks, its sites and its points. It says nothing of what a program does.
use Rattle.std.specs.List.{list_any}
use Rattle.std.specs.Ordering.{int_eq}
use Rattle.std.specs.Prelude.{ℕ, ℤ, Bool, true, false, not, ◌&&◌, ◌++◌, List, [], ◌∷◌, Option, Some, None, Ok}
use Rattle.std.specs.Prelude.{Err, if◌then◌else◌, map}
use Rattle.std.specs.Prelude.{option_map}
use Rattle.place.specs.declared.Place.{Place}
use Rattle.syntax_tree.specs.declared.Name.{Name}
use Rattle.syntax_tree.specs.declared.Constant.{Constant}
use Rattle.syntax_tree.specs.declared.Selector.{Selector}
use Rattle.syntax_tree.specs.Places.{arms_of}
use Rattle.syntax_tree.specs.declared.Direction.{Direction as SyntaxDirection}
use Rattle.syntax_tree.specs.declared.Stmt.{Stmt}
use Rattle.syntax_tree.specs.declared.Stmt.TheOpen.{Stmt-F}
use Rattle.syntax_tree.specs.declared.Stmt.TheOpen.Stmt-F.{Empty as EmptyOf, Assign as AssignOf, Call as CallOf}
use Rattle.syntax_tree.specs.declared.Stmt.TheOpen.Stmt-F.{Compound as CompoundOf, If as IfOf, While as WhileOf}
use Rattle.syntax_tree.specs.declared.Stmt.TheOpen.Stmt-F.{Repeat as RepeatOf, For as ForOf, Case as CaseOf}
use Rattle.syntax_tree.specs.declared.Stmt.TheOpen.Stmt-F.{With as WithOf}
use Rattle.syntax_tree.specs.declared.RecordVariable.{RecordVariable}
use Rattle.syntax_tree.specs.declared.Stmt.TheFolds.{fold-Stmt}
use Rattle.types.specs.Forms.{Form}
use Rattle.types.specs.declared.form.TypeId.{TypeId}
use Rattle.types.specs.declared.form.TypeKind.{TypeKind}
use Rattle.types.specs.declared.form.TypeKind.TheVariants as kind_of_type
use Rattle.types.specs.Types.{integer, boolean, is_compatible, is_ordinal, is_string}
use Rattle.scopes.specs.declared.denotation.Denotation.{Denotation}
use Rattle.scopes.specs.declared.denotation.File.{File}
use Rattle.scopes.specs.declared.denotation.File.TheVariants as file
use Rattle.scopes.specs.declared.denotation.RequiredProcedure.{RequiredProcedure}
use Rattle.typed_tree.specs.declared.fault.TypeFault.TheVariants as fault
use Rattle.typed_tree.specs.declared.site.SiteKind.TheVariants as kind
use Rattle.typed_tree.specs.declared.tree.Selector.{Selector as TreeSelector}
use Rattle.typed_tree.specs.declared.tree.Scalar.{Scalar}
use Rattle.typed_tree.specs.declared.tree.Scalar.TheVariants as scalar
use Rattle.typed_tree.specs.declared.tree.Variable.{Variable}
use Rattle.typed_tree.specs.Accesses.{Origin, AtVariable, index_count, root_of, step_of, steps_of}
use Rattle.typed_tree.specs.WellFormed.{is_one_of}
use Rattle.typed_tree.specs.Look.{Mark, Access, Assign, Target, WholeTarget, Copied, Fits, Write}
use Rattle.typed_tree.specs.Look.{Written as WrittenMark, WrittenString, Width}
use Rattle.typed_tree.specs.Look.{Empty, Compound, If, Then, Else, While, Do, Repeat, Until, For, Controls, ForEnds}
use Rattle.typed_tree.specs.Look.{Case, Arm, Ends, Opens, Read, With, WithEnds}
use Rattle.typing.specs.Passing.{OpenRecord, Passing, pure, fail, given, by_types, mark, each}
use Rattle.typing_rules.specs.Checked.{Checked, and_then}
use Rattle.typing.specs.Passing.{◌>>=◌, ◌>>◌}
use Rattle.typing.specs.Passing.{◌>>?◌}
use Rattle.typing.specs.Steps.{assign_result, pass, enter_as, enter_loop, site, find, heading_at}
use Rattle.typing_rules.specs.Checked.{fits, or_mismatch}
use Rattle.typing.specs.Steps.{may_change, may_control, begin_control, end_control, enclosing_now, variable_at}
use Rattle.typing.specs.Steps.{close_record, next_slot, open_record, point, wants_file}
use Rattle.typing.specs.Constants.{ordinal_constant, constant_place}
use Rattle.typing_rules.specs.declared.typed.Typed.{Typed}
use Rattle.typing_rules.specs.declared.typed.TypedValue.{TypedValue}
use Rattle.typing_rules.specs.declared.typed.TypedValue.TheVariants as value
use Rattle.typing.specs.Expressions.{Denoted, Written, WrittenActual, entire, expression}
use Rattle.typing_rules.specs.Typed.{is_of}
use Rattle.typing_rules.specs.Denotations.{as_routine}
use Rattle.typing_rules.specs.Targets.{copying}
use Rattle.typing.specs.Expressions.{variable_of}
use Rattle.typing.specs.Expressions.{kind_now, routine_call, selected}
use Rattle.typing_rules.specs.Targets.{fitting, test_kind}
use Rattle.typing_rules.specs.Typed.{ordinal_type}
use Rattle.typing.specs.Expressions.{unless_width, written_actual}
use Rattle.typing_rules.specs.Denotations.{as_procedure, as_control}
use Rattle.typing_rules.specs.Targets.{way, representation_of, ordinal_of}

-- what is accessed left of `:=`, by the kind of its type
abbrev pub target_mark : Option TypeKind → Origin → List TreeSelector → TypeId → Mark
target_mark (Some kind_of_type.Structured) origin selectors type_id =
    WholeTarget origin selectors (index_count selectors) type_id
target_mark (Some (kind_of_type.Set base members)) origin selectors type_id =
    Target origin selectors (index_count selectors)
target_mark (Some (kind_of_type.Ordinal range)) origin selectors type_id =
    Target origin selectors (index_count selectors)
target_mark None origin selectors type_id = Target origin selectors (index_count selectors)

-- the result of a function is assigned by its name, inside its block alone, nested ones included (6.7.3, 6.8.2.2)
abbrev pub result_target : Place → Bool → Option ℕ → Passing ℕ
result_target place true (Some root) = assign_result root >> pure root
result_target place inside result = fail (fault.NotVariable place)

abbrev pub or_no_variable : Place → Option Variable → Checked TypeId
or_no_variable place (Some variable) = Ok variable.type_id
or_no_variable place None = Err (fault.NotVariable place)

unfoldable pub function_target : Place → ℕ → Passing (ℕ × TypeId)
function_target place block = do
  enclosing ← enclosing_now
  heading ← heading_at block
  root ← result_target place (is_one_of (enclosing.block ∷ enclosing.around) block) heading.result
  found ← variable_at root
  type_id ← given (or_no_variable place found)
  pure (root, type_id)

-- the variable left of `:=` that a name denotes, with these selectors behind it. A function's name denotes its result
-- alone, and with selectors no variable
abbrev pub target_of : Option (ℕ × Bool) → List Selector → Place → Denotation → Passing Denoted
target_of None selectors place d = variable_of place d
target_of (Some routine) [] place d = function_target place routine.0 >>= (λ v. pure (entire v.0 v.1))
target_of (Some routine) (selector ∷ others) place d = variable_of place d

-- what is accessed left of `:=`: where the access begins, the selectors, and the type
pub record Accessed : Type 0 where
  pub origin : Origin
  pub selectors : List TreeSelector
  pub type_id : TypeId

unfoldable pub target : Name → List Selector → List Written → Passing Accessed
target name selectors indexes = do
  d ← find name
  variable ← target_of (as_routine d) selectors name.place d
  may_change name.place (root_of variable.origin)
  enter_as Access
  component ← selected variable.selectors variable.type_id selectors indexes
  found ← kind_now component.1
  mark (target_mark found variable.origin component.0 component.1)
  pure (record { origin = variable.origin; selectors = component.0; type_id = component.1 })

-- a value that is assigned to an ordinal or a set, and then its test, whose site stands at `:=`
unfoldable pub assigned : Scalar → Accessed → Place → Written → Passing (Unit {0})
assigned tested to becomes value = do
  id ← site (test_kind tested) becomes
  range ← value.typing None >>? (λ types t. or_mismatch becomes (fitting types to.type_id t))
  mark (Fits to.origin to.selectors (record { site = id; tests = tested; range = range }))

-- a value that is copied to a structured target of a type
unfoldable pub copied : TypeId → Place → Written → Passing (Unit {0})
copied type_id becomes value = do
  pass becomes
  copy ← value.typing None >>? (λ types t. or_mismatch becomes (copying types type_id t))
  mark (Copied type_id copy.source copy.cells)

-- a value that is assigned to a target of a kind
abbrev pub assigned_by_kind : Option TypeKind → Accessed → Place → Written → Passing (Unit {0})
assigned_by_kind (Some kind_of_type.Structured) to becomes value = copied to.type_id becomes value
assigned_by_kind (Some (kind_of_type.Set base members)) to becomes value = assigned scalar.Set to becomes value
assigned_by_kind (Some (kind_of_type.Ordinal range)) to becomes value = assigned scalar.Ordinal to becomes value
assigned_by_kind None to becomes value = assigned scalar.Ordinal to becomes value

-- the variable is accessed first, and then comes the value (6.8.2.2)
unfoldable pub assignment : Name → List Selector → List Written → Place → Written → Passing (Unit {0})
assignment name selectors indexes becomes value = do
  enter_as (λ n. Assign n becomes)
  to ← target name selectors indexes
  found ← kind_now to.type_id
  assigned_by_kind found to becomes value

-- the file that the first parameter names; a width makes it a value
abbrev pub unless_wide : Written → Option Written → Passing (Option File)
unless_wide value None = value.file
unless_wide value (Some width) = pure None

-- the parameters behind the file, which may be named first; K3 at the call's name where it is the other file
abbrev pub behind_file : File → Place → WrittenActual → List WrittenActual → Option File
    → Checked (List WrittenActual)
behind_file wanted place first rest None = Ok (first ∷ rest)
behind_file file.Input place first rest (Some file.Input) = Ok rest
behind_file file.Output place first rest (Some file.Output) = Ok rest
behind_file wanted place first rest (Some other) = Err (fault.WrongParameters place)

unfoldable pub without_file : File → Place → List WrittenActual → Passing (List WrittenActual)
without_file wanted place [] = pure []
without_file wanted place (first ∷ rest) =
    unless_wide first.value first.width >>= (λ named. given (behind_file wanted place first rest named))

-- a read or a write has a parameter; a readln or a writeln needs none
abbrev pub has_parameters : Place → RequiredProcedure → List WrittenActual → Checked (Unit {0})
has_parameters place procedure [] = if procedure.ends_line then Ok tt else Err (fault.WrongParameters place)
has_parameters place procedure (one ∷ others) = Ok tt

-- those of a call, behind the file
unfoldable pub parameters_of : Place → RequiredProcedure → List WrittenActual → Passing (List WrittenActual)
parameters_of place procedure actuals = do
  parameters ← without_file procedure.file place actuals
  given (has_parameters place procedure parameters)
  pure parameters

-- how a value is written: an ordinal by its type, or a string
abbrev pub written_value : List Form → TypedValue → Option Mark
written_value types (value.Ordinal type_id) = option_map WrittenMark (representation_of types type_id)
written_value types (value.Set base) = None
written_value types (value.Text type_id length) =
    if is_string types type_id then Some (WrittenString None) else None
written_value types (value.Whole type_id cells) =
    if is_string types type_id then Some (WrittenString (Some type_id)) else None

abbrev pub written_as : List Form → Typed → Option Mark
written_as types t = written_value types t.value

-- a width is an integer; its site is the leading one
abbrev pub measured : Place → Typed → Checked ℕ
measured place t = and_then (fits (is_of integer t) place t.site) (or_mismatch place)

unfoldable pub width : Option Written → Passing (Unit {0})
width None = pure tt
width (Some w) = do
  id ← w.typing (Some kind.Width) >>? (λ types t. measured w.first t)
  mark (Width id)

-- a value that is written, and then its width
unfoldable pub parameter : WrittenActual → Passing (Unit {0})
parameter p = do
  form ← p.value.typing None >>? (λ types t. or_mismatch p.value.first (written_as types t))
  mark form
  width p.width

-- a write or writeln
unfoldable pub write : Name → List WrittenActual → RequiredProcedure → Passing (Unit {0})
write name actuals procedure = do
  enter_as (λ n. Write n name.place procedure.ends_line)
  values ← parameters_of name.place procedure actuals
  each parameter values
  mark Ends

-- a variable that is read has no width; K3 at its first token where it has
unfoldable pub read_parameter : WrittenActual → Passing (Unit {0})
read_parameter p = do
  given (unless_width p.value.first p.width)
  p.value.reading

-- the point at which a readln wants a line end, at its name
unfoldable pub line_point : Place → Bool → Passing (Option ℕ)
line_point place false = pure None
line_point place true = point place >>= (λ id. pure (Some id))

-- a read or readln (6.9.1, 6.9.2)
unfoldable pub read : Name → List WrittenActual → RequiredProcedure → Passing (Unit {0})
read name actuals procedure = do
  line ← line_point name.place procedure.ends_line
  enter_as (λ n. Read n name.place line)
  variables ← parameters_of name.place procedure actuals
  each read_parameter variables
  mark Ends

-- the call of a procedure of a file, which has to be a program parameter
abbrev pub by_file : File → Name → List WrittenActual → RequiredProcedure → Passing (Unit {0})
by_file file.Input = read
by_file file.Output = write

unfoldable pub file_call : Name → List WrittenActual → RequiredProcedure → Passing (Unit {0})
file_call name actuals procedure = do
  wants_file procedure.file name.place
  by_file procedure.file name actuals procedure

-- the call of a required procedure
unfoldable pub required_call : Denotation → Name → List WrittenActual → Passing (Unit {0})
required_call d name actuals = given (as_procedure name.place d) >>= file_call name actuals

-- the call of a procedure that a program declares (6.8.2.3); K3 at the name of a function
unfoldable pub declared_call : ℕ → Bool → Name → List WrittenActual → Passing (Unit {0})
declared_call callee true name actuals = fail (fault.WrongParameters name.place)
declared_call callee false name actuals = routine_call false callee name.place actuals >> pure tt

abbrev pub call_by : Option (ℕ × Bool) → Denotation → Name → List WrittenActual → Passing (Unit {0})
call_by None d name actuals = required_call d name actuals
call_by (Some routine) d name actuals = declared_call routine.0 routine.1 name actuals

-- the call of a procedure
unfoldable pub procedure_call : Name → List WrittenActual → Passing (Unit {0})
procedure_call name actuals = find name >>= (λ d. call_by (as_routine d) d name actuals)

-- statements between begin and end
unfoldable pub compound : List (Passing (Unit {0})) → Passing (Unit {0})
compound statements = do
  enter_as Compound
  each (λ s. s) statements
  mark Ends

-- a condition is Boolean; K1 at its first token where it isn't
unfoldable pub condition : Written → Passing (Unit {0})
condition w = w.typing None >>? (λ types t. fits (is_of boolean t) w.first tt)

-- the statement behind `else`, if there is one
unfoldable pub alternative : Option (Passing (Unit {0})) → Passing (Unit {0})
alternative None = pure tt
alternative (Some statement) = mark Else >> statement

-- an if as far as its `then`
unfoldable pub tested : Place → Written → Passing (Unit {0})
tested place w = do
  pass place
  enter_as If
  condition w
  mark Then

-- an if (6.8.3.4)
unfoldable pub choice : Place → Written → Passing (Unit {0}) → Option (Passing (Unit {0})) → Passing (Unit {0})
choice place w consequence other = do
  tested place w
  consequence
  alternative other
  mark Ends

-- a while (6.8.3.8)
unfoldable pub while_loop : Place → Written → Passing (Unit {0}) → Passing (Unit {0})
while_loop place w body = do
  pass place
  enter_loop (λ n l. While n l place)
  condition w
  mark Do
  body
  mark Ends

-- a repeat (6.8.3.7)
unfoldable pub repeat_loop : Place → List (Passing (Unit {0})) → Written → Passing (Unit {0})
repeat_loop place statements w = do
  pass place
  enter_loop (λ n l. Repeat n l place)
  each (λ s. s) statements
  mark Until
  condition w
  mark Ends

-- a bound of a for, by the root and the type of its control variable: the site of its test stands at its first token,
-- before the sites of that token's own
unfoldable pub bound : ℕ → TypeId → Written → Passing (Unit {0})
bound control type_id w = do
  id ← site kind.Subrange w.first
  range ← w.typing None >>? (λ types t. or_mismatch w.first (fitting types type_id t))
  mark (Fits (AtVariable control) [] (record { site = id; tests = scalar.Ordinal; range = range }))

-- a for as far as its `do`, by the root of its control variable
unfoldable pub for_head : Place → Name → Written → SyntaxDirection → Written → Passing ℕ
for_head place variable first direction last = do
  pass place
  d ← find variable
  control ← given (as_control variable.place d)
  by_types (λ types. fits (is_ordinal types control.1) variable.place (tt {0}))
  may_change variable.place control.0
  may_control variable.place control.0
  enter_loop (λ n l. For n l place control.0 (way direction))
  bound control.0 control.1 first
  bound control.0 control.1 last
  pure control.0

-- the statement of a for changes the control variable nowhere
unfoldable pub for_body : ℕ → Passing (Unit {0}) → Passing (Unit {0})
for_body control body = do
  begin_control control
  mark (Controls control)
  body
  end_control
  mark ForEnds

-- a for (6.8.3.9)
abbrev pub for_loop : Place → Name → Written → SyntaxDirection → Written → Passing (Unit {0}) → Passing (Unit {0})
for_loop place variable first direction last body =
    for_head place variable first direction last >>= (λ control. for_body control body)

-- a constant of a case is of the index's type, and none of those that stand before it; else it is K6 where it begins
abbrev pub own_constant : List Form → TypeId → List ℤ → Place → Option (ℤ × TypeId) → Checked ℤ
own_constant types type_id before place None = Err (fault.CaseConstant place)
own_constant types type_id before place (Some c) =
    if is_compatible types type_id c.1 && not (list_any (int_eq c.0) before) then Ok c.0
    else Err (fault.CaseConstant place)

unfoldable pub case_constant : TypeId → List ℤ → Constant → Passing ℤ
case_constant type_id before c =
    ordinal_constant c >>? (λ types one. own_constant types type_id before (constant_place c) one)

-- the constants before an arm: behind those of the arms before it, and these of its row
abbrev pub constant_row : TypeId → List ℤ → List ℤ → List Constant → Passing (List ℤ)
constant_row type_id before row [] = pure row
constant_row type_id before row (c ∷ cs) =
    case_constant type_id (before ++ row) c >>= (λ value. constant_row type_id before (row ++ value ∷ []) cs)

-- the arms of a case, behind arms with these constants
abbrev pub case_arms : TypeId → List ℤ → List (List Constant × Passing (Unit {0})) → Passing (Unit {0})
case_arms type_id before [] = pure tt
case_arms type_id before (arm ∷ arms) = do
  row ← constant_row type_id before [] arm.0
  mark (Arm row)
  arm.1
  case_arms type_id (before ++ row) arms

-- a case as far as its `of`, by the type of its index, which is ordinal; the site stands at its word
unfoldable pub case_head : Place → Written → Passing TypeId
case_head place index = do
  id ← site kind.Case place
  enter_as (λ n. Case n id)
  index.typing None >>? (λ types t. ordinal_of types index.first (ordinal_type t.value))

unfoldable pub case_body : List (List Constant × Passing (Unit {0})) → TypeId → Passing (Unit {0})
case_body arms type_id = case_arms type_id [] arms >> mark Ends

-- a case (6.8.3.5)
abbrev pub case_statement : Place → Written → List (List Constant × Passing (Unit {0})) → Passing (Unit {0})
case_statement place index arms = case_head place index >>= case_body arms

-- a record of a with, as it is opened: what these selectors lead to
abbrev pub opened_record : Origin → List TreeSelector → TypeId → OpenRecord
opened_record origin selectors type_id = record {
  root = root_of origin;
  steps = steps_of origin ++ map step_of selectors;
  type_id = type_id;
}

-- a variable as it is written
pub record WrittenVariable : Type 0 where
  pub name : Name
  pub selectors : List Selector
  pub indexes : List Written

abbrev pub written_record : RecordVariable → WrittenVariable
written_record one = record {
  name = one.name;
  selectors = one.selectors.items;
  indexes = map expression one.indexes.items;
}

-- a record of a with is accessed, and then its fields are names; K1 at its name where it is no record
unfoldable pub opened : WrittenVariable → Passing (Unit {0})
opened one = do
  d ← find one.name
  variable ← variable_of one.name.place d
  enter_as Access
  component ← selected variable.selectors variable.type_id one.selectors one.indexes
  mark (Opens variable.origin component.0 (index_count component.0))
  open_record one.name.place (opened_record variable.origin component.0 component.1)

-- a with (6.8.3.10): each of its records is opened before the next is looked up
unfoldable pub with_statement : Place → List WrittenVariable → Passing (Unit {0}) → Passing (Unit {0})
with_statement place records body = do
  pass place
  first_slot ← next_slot
  enter_as (λ n. With n first_slot)
  each opened records
  mark Do
  body
  each (λ _. close_record) records
  mark (WithEnds first_slot)

abbrev pub statement_step : Stmt-F (Passing (Unit {0})) → Passing (Unit {0})
statement_step EmptyOf = enter_as Empty
statement_step (AssignOf name selectors indexes becomes value) =
    assignment name selectors.items (map expression indexes.items) becomes (expression value)
statement_step (CallOf name actuals) = procedure_call name (map written_actual actuals.items)
statement_step (CompoundOf statements) = compound statements.items
statement_step (IfOf place condition consequence alternative) =
    choice place (expression condition) consequence.value (option_map (λ statement. statement.value) alternative)
statement_step (WhileOf place condition body) = while_loop place (expression condition) body.value
statement_step (RepeatOf place statements condition) = repeat_loop place statements.items (expression condition)
statement_step (ForOf place variable first direction last body) =
    for_loop place variable (expression first) direction (expression last) body.value
statement_step (CaseOf place index constants arms semicolon) =
    case_statement place (expression index) (arms_of constants.items arms.items)
statement_step (WithOf place records body) =
    with_statement place (map written_record records.items) body.value

-- a statement
abbrev pub statement : Stmt → Passing (Unit {0})
statement = fold-Stmt (Passing (Unit {0})) statement_step
