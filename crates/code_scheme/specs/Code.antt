-- The code of a typed tree: of an expression (ISO 7185:1990, 6.7), of a statement (6.8) and of a program (6.10), as
-- functions of the tree, of where in a frame its variables lie and, for a statement, of its place in the code. It does
-- not say what the code does: that is for the machine to say.
use Rattle.std.specs.Prelude.{ℕ, zero, suc, ℤ, pos, ◌+◌, ◌-◌, Bool, true, false, List, [], ◌∷◌, ◌++◌}
use Rattle.std.specs.Prelude.{Option, Some, None, if◌then◌else◌, length, map}
use Rattle.std.specs.Global.{Vec}
use Rattle.std.specs.List.{flat_map}
use Rattle.pcode_assembler.specs.declared.instr.Instr.{Instr}
use Rattle.pcode_assembler.specs.declared.instr.Instr.TheVariants as instr
use Rattle.typed_tree.specs.declared.tree.Tree.{Tree}
use Rattle.typed_tree.specs.declared.tree.Block.{Block}
use Rattle.typed_tree.specs.declared.tree.FunctionResult.{FunctionResult}
use Rattle.typed_tree.specs.declared.tree.Assignment.{Assignment}
use Rattle.typed_tree.specs.declared.tree.Copying.{Copying}
use Rattle.typed_tree.specs.declared.tree.Writing.{Writing}
use Rattle.typed_tree.specs.declared.tree.Reading.{Reading}
use Rattle.typed_tree.specs.declared.tree.ReadVariable.{ReadVariable}
use Rattle.typed_tree.specs.declared.tree.Readable.{Readable}
use Rattle.typed_tree.specs.declared.tree.Readable.TheVariants as readable
use Rattle.typed_tree.specs.declared.tree.InputTest.{InputTest}
use Rattle.typed_tree.specs.declared.tree.InputTest.TheVariants as input_test
use Rattle.typed_tree.specs.declared.tree.ForHead.{ForHead}
use Rattle.typed_tree.specs.declared.tree.CaseHead.{CaseHead}
use Rattle.typed_tree.specs.declared.tree.Call.{Call}
use Rattle.typed_tree.specs.declared.tree.Access.{Access}
use Rattle.typed_tree.specs.declared.tree.Selector.{Selector}
use Rattle.typed_tree.specs.declared.tree.Selector.TheVariants.{Element, Field}
use Rattle.typed_tree.specs.declared.tree.Monadic.{Monadic}
use Rattle.typed_tree.specs.declared.tree.Monadic.TheVariants as monadic
use Rattle.typed_tree.specs.declared.tree.Calculation.{Calculation}
use Rattle.typed_tree.specs.declared.tree.Calculation.TheVariants as calculation
use Rattle.typed_tree.specs.declared.tree.Shift.{Shift}
use Rattle.typed_tree.specs.declared.tree.Shift.TheVariants as shift
use Rattle.typed_tree.specs.declared.tree.Dyadic.{Dyadic}
use Rattle.typed_tree.specs.declared.tree.Dyadic.TheVariants as dyadic
use Rattle.typed_tree.specs.declared.tree.Relation.{Relation}
use Rattle.typed_tree.specs.declared.tree.Relation.TheVariants as relation
use Rattle.typed_tree.specs.declared.tree.RangeTest.{RangeTest}
use Rattle.typed_tree.specs.declared.tree.Direction.{Direction}
use Rattle.typed_tree.specs.declared.tree.Direction.TheVariants as direction
use Rattle.typed_tree.specs.declared.tree.Designator.{Designator}
use Rattle.typed_tree.specs.declared.tree.Designator.TheVariants as designator
use Rattle.typed_tree.specs.declared.tree.SetRelation.{SetRelation}
use Rattle.typed_tree.specs.declared.tree.SetRelation.TheVariants as set_relation
use Rattle.typed_tree.specs.declared.tree.Scalar.{Scalar}
use Rattle.typed_tree.specs.declared.tree.Scalar.TheVariants as scalar
use Rattle.typed_tree.specs.declared.tree.WithRecord.{WithRecord}
use Rattle.typed_tree.specs.declared.tree.Representation.{Representation}
use Rattle.typed_tree.specs.declared.tree.Representation.TheVariants as representation
use Rattle.typed_tree.specs.declared.tree.Width.{Width}
use Rattle.typed_tree.specs.declared.tree.WriteParameter.{WriteParameter}
use Rattle.typed_tree.specs.declared.tree.Written.{Written}
use Rattle.typed_tree.specs.declared.tree.Written.TheVariants.{Ordinal, String}
use Rattle.typed_tree.specs.declared.tree.Whole.{Whole}
use Rattle.typed_tree.specs.declared.tree.Whole.TheVariants.{Text, Variable as VariableOf}
use Rattle.typed_tree.specs.declared.tree.Expr.{Expr}
use Rattle.typed_tree.specs.declared.tree.Link.{Link}
use Rattle.typed_tree.specs.declared.tree.Passed.{Passed}
use Rattle.typed_tree.specs.declared.tree.Expr.TheOpen.{Expr-F, Passed-F, Link-F}
use Rattle.typed_tree.specs.declared.tree.Expr.TheOpen.Expr-F.{Constant, Variable, Monadic as MonadicOf, Chain}
use Rattle.typed_tree.specs.declared.tree.Expr.TheOpen.Expr-F.{Compare, Call as CallOf, Set, Input}
use Rattle.typed_tree.specs.declared.tree.Expr.TheOpen.Passed-F.{Value as PassedValue, Whole as PassedWhole, Reference}
use Rattle.typed_tree.specs.declared.tree.Expr.TheFolds.{fold-Expr, fold-Passed, fold-Link}
use Rattle.typed_tree.specs.declared.tree.Stmt.{Stmt}
use Rattle.typed_tree.specs.declared.tree.Stmt.TheOpen.{Stmt-F}
use Rattle.typed_tree.specs.declared.tree.Stmt.TheOpen.Stmt-F.{Empty, Assign, Write, Compound, If, While, Repeat, For}
use Rattle.typed_tree.specs.declared.tree.Stmt.TheOpen.Stmt-F.{Case, Copy, Call as Calling, With, Read}
use Rattle.typed_tree.specs.declared.tree.Stmt.TheFolds.{fold-Stmt}
use Rattle.typed_tree.specs.WellFormed.{length_of}
use Rattle.code_scheme.specs.declared.routine.Routine.{Routine}
use Rattle.code_scheme.specs.Scopes.{Scope, offset, count, row_length, held_offset, holding, links_to}
use Rattle.code_scheme.specs.Scopes.{access_home, access_offset, behind_fields, block_level, block_scope}
use Rattle.code_scheme.specs.Scopes.{called_routine, other_cells, parameter_cells, variable_home, with_record}
use Rattle.code_scheme.specs.Scopes.{with_records}
use Rattle.code_scheme.specs.Depth.{block_depth}

-- the pieces one after another
abbrev pub joined : List (List Instr) → List Instr
joined pieces = flat_map (λ piece. piece) pieces

-- pieces that are made for their places, one after another from this place on
abbrev pub placed : List (ℕ → List Instr) → ℕ → List Instr
placed [] place = []
placed (piece ∷ pieces) place = piece place ++ placed pieces (place + length (piece place))

-- the test of an ordinal
abbrev pub range_check : RangeTest → Instr
range_check fits = instr.CheckRange fits.site fits.range.first fits.range.last

-- the test of a value that is assigned or passed: of an ordinal, or of each member of a set
abbrev pub tested_check : Scalar → RangeTest → Instr
tested_check scalar.Ordinal fits = range_check fits
tested_check scalar.Set fits = instr.CheckSet fits.site fits.range.first fits.range.last

abbrev pub value_check : RangeTest → Instr
value_check fits = tested_check fits.tests fits

-- what is calculated from the value before it, checked where it may be no integer
abbrev pub calculation_code : Calculation → List Instr
calculation_code calculation.Same = []
calculation_code calculation.Negative = instr.Negate ∷ []
calculation_code calculation.Complement = instr.Not ∷ []
calculation_code calculation.Absolute = instr.Absolute ∷ []
calculation_code (calculation.Square overflow) = instr.CheckSquare overflow ∷ instr.Square ∷ []
calculation_code calculation.Parity = instr.Odd ∷ []
calculation_code calculation.Ordinal = []

-- from a value that passed a test to the result
abbrev pub shift_code : Shift → List Instr
shift_code shift.Same = []
shift_code shift.Next = instr.LoadConstant (pos 1) ∷ instr.Add ∷ []
shift_code shift.Previous = instr.LoadConstant (pos 1) ∷ instr.Subtract ∷ []

-- what an operation does to the value before it
abbrev pub monadic_code : Monadic → List Instr
monadic_code (monadic.Plain does) = calculation_code does
monadic_code (monadic.Tested fits does) = range_check fits ∷ shift_code does

-- the instruction of a relation
abbrev pub relation_instr : Relation → Instr
relation_instr relation.Equal = instr.Equal
relation_instr relation.NotEqual = instr.NotEqual
relation_instr relation.Less = instr.Less
relation_instr relation.Greater = instr.Greater
relation_instr relation.LessOrEqual = instr.LessOrEqual
relation_instr relation.GreaterOrEqual = instr.GreaterOrEqual

-- the same of two sets
abbrev pub set_relation_instr : SetRelation → Instr
set_relation_instr set_relation.Equal = instr.SetEqual
set_relation_instr set_relation.NotEqual = instr.SetNotEqual
set_relation_instr set_relation.Included = instr.SetInside
set_relation_instr set_relation.Includes = instr.SetAround

-- a check that a number is at least 1
abbrev pub check_positive : ℕ → Instr
check_positive site = instr.CheckRange site (pos 1) (pos 2147483647)

-- what an operation does to the two values before it, checked
abbrev pub dyadic_code : Dyadic → List Instr
dyadic_code (dyadic.Plus overflow) = instr.CheckSum overflow ∷ instr.Add ∷ []
dyadic_code (dyadic.Minus overflow) = instr.CheckDifference overflow ∷ instr.Subtract ∷ []
dyadic_code (dyadic.Times overflow) = instr.CheckProduct overflow ∷ instr.Multiply ∷ []
dyadic_code (dyadic.Div by_zero) = instr.CheckZero by_zero ∷ instr.Divide ∷ []
dyadic_code (dyadic.Mod by_zero_or_less) = check_positive by_zero_or_less ∷ instr.Modulo ∷ []
dyadic_code dyadic.And = instr.And ∷ []
dyadic_code dyadic.Or = instr.Or ∷ []
dyadic_code (dyadic.Relation r) = relation_instr r ∷ []
dyadic_code dyadic.Union = instr.Union ∷ []
dyadic_code dyadic.Difference = instr.Difference ∷ []
dyadic_code dyadic.Intersection = instr.Intersection ∷ []
dyadic_code (dyadic.SetRelation r) = set_relation_instr r ∷ []
dyadic_code dyadic.In = instr.IsMember ∷ []

-- a field behind so many cells of its record, whose address is on top
abbrev pub field_code : ℕ → List Instr
field_code zero = []
field_code (suc n) = instr.Increase (offset (suc n)) ∷ []

-- The code of selectors, over the address of what they select from: of an index its code, its test, and the address of
-- its element (6.5.3.2); of a field its address (6.5.3.3). An index that isn't there has no code.
abbrev pub selectors_code : List Selector → List (List Instr) → List Instr
selectors_code [] indexes = []
selectors_code (Field position before ∷ selectors) indexes = field_code before ++ selectors_code selectors indexes
selectors_code (Element fits cells ∷ selectors) [] = selectors_code selectors []
selectors_code (Element fits cells ∷ selectors) (index ∷ indexes) =
    index
    ++ (range_check fits ∷ instr.IndexAddress fits.range.first (row_length cells) ∷ selectors_code selectors indexes)

-- what is accessed, as code reaches it: a cell at an offset in a frame behind so many static links; or code pushes its
-- address
pub data Reached : Type 0 where
  At : ℕ → ℕ → Reached
  By : List Instr → Reached

-- what selectors lead to from a component in a frame
abbrev pub reached_from : ℕ → ℕ → List Selector → List (List Instr) → Reached
reached_from level start [] indexes = At level start
reached_from level start (selector ∷ selectors) indexes =
    By (instr.LoadAddress level start ∷ selectors_code (selector ∷ selectors) indexes)

-- what is accessed (6.5.1): that of a variable parameter, or in a record of a `with`, by the address in its cell
abbrev pub reached : Scope → Access → List (List Instr) → Reached
reached scope access indexes =
    let home = access_home scope access in
    let level = links_to scope home.level in
    if home.refers then By (instr.Load level home.start ∷ selectors_code access.selectors.items indexes)
    else reached_from level (access_offset scope access) (behind_fields access.selectors.items) indexes

-- the code that pushes its address
abbrev pub address_of : Reached → List Instr
address_of (At level start) = instr.LoadAddress level start ∷ []
address_of (By address) = address

-- the code that pushes the ordinal or the set there
abbrev pub fetch_code : Reached → List Instr
fetch_code (At level start) = instr.Load level start ∷ []
fetch_code (By address) = address ++ (instr.LoadIndirect 0 ∷ [])

-- the code that stores an ordinal or a set there, which this code pushes
abbrev pub store_code : List Instr → Reached → List Instr
store_code value (At level start) = value ++ (instr.Store level start ∷ [])
store_code value (By address) = address ++ (value ++ (instr.StoreIndirect ∷ []))

-- the code of the address of what is accessed
abbrev pub address_code : Scope → Access → List (List Instr) → List Instr
address_code scope access indexes = address_of (reached scope access indexes)

-- the value of what is accessed, an ordinal or a set, checked
abbrev pub variable_code : Scope → Access → List (List Instr) → ℕ → List Instr
variable_code scope access indexes defined =
    fetch_code (reached scope access indexes) ++ (instr.CheckDefined defined 1 ∷ [])

-- the code of a whole value, which pushes its components, the first one first: those of a variable stand from its
-- address on, and all are checked
abbrev pub whole_code : Scope → Whole → List (List Instr) → List Instr
whole_code scope (Text number characters) indexes = map (λ c. instr.LoadConstant (pos c)) characters.items
whole_code scope (VariableOf access type_id cells defined) indexes =
    address_code scope access indexes
    ++ (instr.LoadMany (row_length cells) ∷ instr.CheckDefined defined (row_length cells) ∷ [])

-- the code of a relation of two whole values, which are pushed first: their order, and what that is to 0
abbrev pub compare_code : Relation → ℕ → List Instr → List Instr → List Instr
compare_code r components left right =
    left
    ++ (right ++ (instr.Compare (row_length components) ∷ instr.LoadConstant (pos 0) ∷ relation_instr r ∷ []))

-- behind the value of a member, or the first and the last of several: a check, and the set of them
abbrev pub single_code : ℕ → List Instr
single_code site = instr.CheckRange site (pos 0) (pos 127) ∷ instr.Singleton ∷ []

abbrev pub span_code : ℕ → List Instr
span_code site = instr.CheckMembers site ∷ instr.SetRange ∷ []

-- a set is joined to the one before it, if there is one
abbrev pub union_code : Bool → List Instr
union_code false = []
union_code true = instr.Union ∷ []

-- The code of the designators of a set constructor (6.7.1), with that of its members, where a set of others is there
-- already or none. A designator without its members ends it.
abbrev pub designators_code : Bool → List Designator → List (List Instr) → List Instr
designators_code some [] members = []
designators_code some (designator.Single site ∷ others) [] = []
designators_code some (designator.Single site ∷ others) (value ∷ members) =
    value ++ ((single_code site ++ union_code some) ++ designators_code true others members)
designators_code some (designator.Range site ∷ others) [] = []
designators_code some (designator.Range site ∷ others) (first ∷ []) = []
designators_code some (designator.Range site ∷ others) (first ∷ last ∷ members) =
    first ++ (last ++ ((span_code site ++ union_code some) ++ designators_code true others members))

-- the code of a set constructor, which pushes a set
abbrev pub set_code : List Designator → List (List Instr) → List Instr
set_code [] members = instr.LoadSet 0 ∷ []
set_code (first ∷ others) members = designators_code false (first ∷ others) members

-- the code of an actual parameter, which pushes a value, checked, the components of a copy, or an address
abbrev pub passed_step : Scope → Passed-F (List Instr) (List Instr) (List Instr) → List Instr
passed_step scope (PassedValue value fits) = value ++ (value_check fits ∷ [])
passed_step scope (PassedWhole type_id value indexes) = whole_code scope value indexes.items
passed_step scope (Reference type_id access indexes) = address_code scope access indexes.items

-- the code of a call: the links of a new frame, whose static link is the frame of the block that declares the routine;
-- behind them the actual parameters; and the jump to the routine's code (6.7.3, 6.8.2.3)
abbrev pub call_code : Scope → Call → List (List Instr) → List Instr
call_code scope call actuals =
    let routine = called_routine scope call.block in
    instr.MarkStack (links_to scope routine.level)
    ∷ (joined actuals ++ (instr.CallProcedure (row_length routine.cells) routine.place ∷ []))

-- what is asked of the input (6.6.6.5)
abbrev pub asked_instr : InputTest → Instr
asked_instr input_test.End = instr.EndOfFile
asked_instr (input_test.LineEnd point) = instr.EndOfLine point

abbrev pub expr_step : Scope → Expr-F (List Instr) (List Instr) (List Instr) → List Instr
expr_step scope (Constant number value) = instr.LoadConstant value ∷ []
expr_step scope (Variable access indexes holds defined) = variable_code scope access indexes.items defined
expr_step scope (MonadicOf number operation operand) = operand.value ++ monadic_code operation
expr_step scope (Chain first rest) = first.value ++ joined rest.items
expr_step scope (Compare number relation left left_indexes right right_indexes) =
    compare_code relation (length_of left) (whole_code scope left left_indexes.items)
    (whole_code scope right right_indexes.items)
expr_step scope (CallOf call actuals) = call_code scope call actuals.items
expr_step scope (Input number asks) = asked_instr asks ∷ []
expr_step scope (Set number designators members) = set_code designators.items members.items

abbrev pub link_step : Link-F (List Instr) (List Instr) (List Instr) → List Instr
link_step link = link.operand ++ dyadic_code link.operation

-- the code of an expression, which pushes its value
abbrev pub expr_code : Scope → Expr → List Instr
expr_code scope = fold-Expr (List Instr) (List Instr) (List Instr) (expr_step scope) (passed_step scope) link_step

-- the code of an actual parameter
abbrev pub passed_code : Scope → Passed → List Instr
passed_code scope = fold-Passed (List Instr) (List Instr) (List Instr) (expr_step scope) (passed_step scope) link_step

-- the code of an operator and its right operand
abbrev pub link_code : Scope → Link → List Instr
link_code scope = fold-Link (List Instr) (List Instr) (List Instr) (expr_step scope) (passed_step scope) link_step

-- the code of each index expression of an access
abbrev pub index_codes : Scope → List Expr → List (List Instr)
index_codes scope = map (expr_code scope)

-- the code of an assignment (6.8.2.2): the target's address, if it is no cell of a frame; the value, its check, its
-- store
abbrev pub assign_code : Scope → Assignment → List Instr
assign_code scope assignment =
    store_code (expr_code scope assignment.value ++ (value_check assignment.fits ∷ []))
    (reached scope assignment.target (index_codes scope assignment.indexes.items))

-- the code of an assignment of a whole value: the target's address, the components of the value, and their store
abbrev pub copy_code : Scope → Copying → List Instr
copy_code scope copying =
    address_code scope copying.target (index_codes scope copying.indexes.items)
    ++ (whole_code scope copying.value (index_codes scope copying.value_indexes.items)
    ++ (instr.StoreMany (row_length (length_of copying.value)) ∷ []))

-- the width of an ordinal that has none
abbrev pub ordinal_width : Representation → ℤ
ordinal_width representation.Char = pos 1
ordinal_width representation.Integer = pos 10
ordinal_width representation.Boolean = pos 5

-- the width of a value that has none: of a string it is its length
abbrev pub default_width : Written → Instr
default_width (Ordinal value representation) = instr.LoadConstant (ordinal_width representation)
default_width (String value indexes) = instr.LoadConstant (pos (row_length (length_of value)))

-- the code of a width, checked
abbrev pub width_code : Scope → Option Width → Written → List Instr
width_code scope None value = default_width value ∷ []
width_code scope (Some width) value = expr_code scope width.value ++ (check_positive width.site ∷ [])

-- what writes an ordinal, its width on top
abbrev pub ordinal_instr : Representation → Instr
ordinal_instr representation.Char = instr.WriteChar
ordinal_instr representation.Integer = instr.WriteInteger
ordinal_instr representation.Boolean = instr.WriteBoolean

-- the same of any value
abbrev pub write_instr : Written → Instr
write_instr (Ordinal value representation) = ordinal_instr representation
write_instr (String value indexes) = instr.WriteString (row_length (length_of value))

-- the code of a value that is written
abbrev pub written_code : Scope → Written → List Instr
written_code scope (Ordinal value representation) = expr_code scope value
written_code scope (String value indexes) = whole_code scope value (index_codes scope indexes.items)

-- the code that writes a value
abbrev pub parameter_code : Scope → WriteParameter → List Instr
parameter_code scope parameter =
    written_code scope parameter.value
    ++ (width_code scope parameter.width parameter.value ++ (write_instr parameter.value ∷ []))

-- a line end behind a writeln
abbrev pub line_end_code : Bool → List Instr
line_end_code true = instr.WriteLine ∷ []
line_end_code false = []

-- the code of a write or writeln: each value in turn
abbrev pub write_code : Scope → Writing → List Instr
write_code scope writing = flat_map (parameter_code scope) writing.parameters.items ++ line_end_code writing.ends_line

-- what reads a value of the input
abbrev pub read_instr : Readable → ℕ → Instr
read_instr readable.Integer point = instr.ReadInteger point
read_instr readable.Char point = instr.ReadChar point

-- the code that pushes what is read for a variable, checked by its type
abbrev pub input_code : ReadVariable → List Instr
input_code one =
    read_instr one.reads one.point ∷ instr.CheckInput one.point one.range.first one.range.last ∷ []

-- the code that reads a variable (6.9.1): its address, if it is no cell of a frame; the value, its check, its store
abbrev pub variable_read_code : Scope → ReadVariable → List Instr
variable_read_code scope one =
    store_code (input_code one) (reached scope one.access (index_codes scope one.indexes.items))

-- what passes the next line end behind a readln
abbrev pub line_passed_code : Option ℕ → List Instr
line_passed_code None = []
line_passed_code (Some point) = instr.ReadLine point ∷ []

-- the code of a read or readln (6.9.1, 6.9.2): each variable in turn
abbrev pub read_code : Scope → Reading → List Instr
read_code scope reading = flat_map (variable_read_code scope) reading.variables.items ++ line_passed_code reading.line

-- what is known where the code of a statement is made: its block's scope, and its place
abbrev pub Placed : Type 0
Placed = Scope → ℕ → List Instr

-- the code of an if statement without `else` (6.8.3.4): where the condition is false, a jump behind the consequence
abbrev pub if_code : List Instr → Placed → Placed
if_code test consequence scope place =
    let yes = place + length test + 1 in
    test ++ (instr.JumpIfFalse (yes + length (consequence scope yes)) ∷ consequence scope yes)

-- the same with `else`: where the condition is false, a jump to the alternative, and behind the consequence one over it
abbrev pub if_else_code : List Instr → Placed → Placed → Placed
if_else_code test consequence alternative scope place =
    let yes = place + length test + 1 in
    let no = yes + length (consequence scope yes) + 1 in
    test ++ (instr.JumpIfFalse no ∷ (consequence scope yes
    ++ (instr.Jump (no + length (alternative scope no)) ∷ alternative scope no)))

-- the code of a while statement (6.8.3.8): where the condition is false, a jump behind the loop; behind the body one
-- back to the condition
abbrev pub while_code : List Instr → Placed → Placed
while_code test body scope place =
    let inside = place + length test + 1 in
    test ++ (instr.JumpIfFalse (inside + length (body scope inside) + 1)
    ∷ (body scope inside ++ (instr.Jump place ∷ [])))

-- the code of a repeat statement (6.8.3.7): where the condition is false, a jump back to the first statement
abbrev pub repeat_code : (ℕ → List Instr) → List Instr → ℕ → List Instr
repeat_code statements test place = statements place ++ (test ++ (instr.JumpIfFalse place ∷ []))

-- whether there is a value from the first bound of a for statement to the last, and the next value
abbrev pub order_instr : Direction → Instr
order_instr direction.To = instr.LessOrEqual
order_instr direction.DownTo = instr.GreaterOrEqual

abbrev pub next_instr : Direction → Instr
next_instr direction.To = instr.Add
next_instr direction.DownTo = instr.Subtract

-- The code behind both bounds, whose values are held from then on: a jump out of the loop where they leave no value,
-- and the tests of the first and of the last.
abbrev pub for_entry : Scope → ForHead → ℕ → List Instr
for_entry scope head out =
    instr.Load 0 (held_offset scope 0) ∷ instr.Load 0 (held_offset scope 1) ∷ order_instr head.direction
    ∷ instr.JumpIfFalse out ∷ instr.Load 0 (held_offset scope 0) ∷ range_check head.first.fits
    ∷ instr.Store 0 (held_offset scope 0) ∷ range_check head.last.fits ∷ []

-- where a control variable begins, which the block declares whose statement the for statement is in
abbrev pub control_offset : Scope → ℕ → ℕ
control_offset scope control = (variable_home scope control).start

-- where a round begins, the control variable gets the value that is held
abbrev pub for_begin : Scope → ℕ → List Instr
for_begin scope control = instr.Load 0 (held_offset scope 0) ∷ instr.Store 0 (control_offset scope control) ∷ []

-- behind the body: out of the loop with the last value, or else to the next round with the next one
abbrev pub for_next : Scope → Direction → ℕ → ℕ → List Instr
for_next scope way round out =
    instr.Load 0 (held_offset scope 0) ∷ instr.Load 0 (held_offset scope 1) ∷ instr.NotEqual ∷ instr.JumpIfFalse out
    ∷ instr.Load 0 (held_offset scope 0) ∷ instr.LoadConstant (pos 1) ∷ next_instr way
    ∷ instr.Store 0 (held_offset scope 0) ∷ instr.Jump round ∷ []

-- Behind the loop nothing more is held, and the control variable is undefined. The program's frame, to which the static
-- links lead, has no return, so its third cell never gets a value.
abbrev pub for_end : Scope → ℕ → List Instr
for_end scope control =
    instr.Store 0 (control_offset scope control) ∷ instr.Store 0 (control_offset scope control)
    ∷ instr.Load (links_to scope 0) 2 ∷ instr.Store 0 (control_offset scope control) ∷ []

-- the code of a for statement (6.8.3.9)
abbrev pub for_code : ForHead → Placed → Placed
for_code head body scope place =
    let first = expr_code scope head.first.value in
    let last = expr_code scope head.last.value in
    let round = place + length first + length last + 8 in
    let inside = body (holding 2 scope) (round + 2) in
    let out = round + 2 + length inside + 9 in
    first ++ (last ++ (for_entry scope head out ++ (for_begin scope head.control
    ++ (inside ++ (for_next scope head.direction round out ++ for_end scope head.control)))))

-- the index is compared with a constant, and a jump to the arm is taken where it is the same
abbrev pub comparison : Scope → ℕ → ℤ → List Instr
comparison scope arm constant =
    instr.LoadConstant constant ∷ instr.Load 0 (held_offset scope 0) ∷ instr.NotEqual ∷ instr.JumpIfFalse arm ∷ []

-- it is compared with each constant of a row
abbrev pub row_code : Scope → ℕ → List ℤ → List Instr
row_code scope arm row = flat_map (comparison scope arm) row

-- one arm behind another: its constants, a jump over it, the arm, and a jump out of the statement
abbrev pub arms_code : Scope → ℕ → List (Vec ℤ) → List Placed → ℕ → List Instr
arms_code scope out [] arms place = []
arms_code scope out (row ∷ rows) [] place = []
arms_code scope out (row ∷ rows) (arm ∷ arms) place =
    let inside = place + length (row_code scope 0 row.items) + 1 in
    let next = inside + length (arm (holding 1 scope) inside) + 1 in
    row_code scope inside row.items ++ (instr.Jump next
    ∷ (arm (holding 1 scope) inside ++ (instr.Jump out ∷ arms_code scope out rows arms next)))

-- the code of a case statement (6.8.3.5): the index, which is held; the arms; an error where it equals no constant; and
-- what takes the index away, a conditional jump to the next instruction
abbrev pub case_code : CaseHead → List Placed → Placed
case_code head arms scope place =
    let index = expr_code scope head.index in
    let rows = head.constants.items in
    let first = place + length index in
    let out = first + length (arms_code scope 0 rows arms first) + 1 in
    index ++ (arms_code scope out rows arms first ++ (instr.Fail head.site ∷ instr.JumpIfFalse (out + 1) ∷ []))

-- the code of the records of a `with` (6.8.3.10), each of which pushes an address, which is held from then on
abbrev pub records_code : Scope → List WithRecord → List Instr
records_code scope [] = []
records_code scope (one ∷ others) =
    address_code scope one.access (index_codes scope one.indexes.items) ++ records_code (with_record scope) others

-- what takes so many addresses away: for each a conditional jump to the next instruction
abbrev pub release_code : ℕ → ℕ → List Instr
release_code zero place = []
release_code (suc n) place = instr.JumpIfFalse (place + 1) ∷ release_code n (place + 1)

-- the code of a `with` statement: the addresses of its records, its statement, and what takes them away
abbrev pub with_code : List WithRecord → Placed → Placed
with_code records body scope place =
    let addresses = records_code scope records in
    let inside = place + length addresses in
    let code = body (with_records (length records) scope) inside in
    addresses ++ (code ++ release_code (length records) (inside + length code))

abbrev pub stmt_step : Stmt-F Placed → Placed
stmt_step (Empty number) scope place = []
stmt_step (Assign assignment) scope place = assign_code scope assignment
stmt_step (Copy copying) scope place = copy_code scope copying
stmt_step (Write writing) scope place = write_code scope writing
stmt_step (Read reading) scope place = read_code scope reading
stmt_step (Calling calling) scope place = call_code scope calling.call (map (passed_code scope) calling.actuals.items)
stmt_step (Compound number statements) scope place = placed (map (λ code. code scope) statements.items) place
stmt_step (If number condition consequence None) scope place =
    if_code (expr_code scope condition) consequence.value scope place
stmt_step (If number condition consequence (Some alternative)) scope place =
    if_else_code (expr_code scope condition) consequence.value alternative.value scope place
stmt_step (While head body) scope place = while_code (expr_code scope head.condition) body.value scope place
stmt_step (Repeat head statements) scope place =
    repeat_code (placed (map (λ code. code scope) statements.items)) (expr_code scope head.condition) place
stmt_step (For head body) scope place = for_code head body.value scope place
stmt_step (Case head arms) scope place = case_code head arms.items scope place
stmt_step (With head body) scope place = with_code head.records.items body.value scope place

-- the code of a statement at a place
abbrev pub stmt_code : Stmt → Placed
stmt_code = fold-Stmt Placed stmt_step

-- the code of some statements one after another, from this place on
abbrev pub statements_code : Scope → List Stmt → ℕ → List Instr
statements_code scope statements place = placed (map (λ s. stmt_code s scope) statements) place

-- the code at the end of a routine: a function's result is pushed, checked, and taken along (6.7.3)
abbrev pub return_code : Scope → Option FunctionResult → List Instr
return_code scope None = instr.Return 0 ∷ []
return_code scope (Some result) =
    instr.Load 0 (variable_home scope result.root).start ∷ instr.CheckDefined result.defined 1 ∷ instr.Return 1 ∷ []

-- the code at the end of a block of a number: at that of the program's the run ends
abbrev pub end_code : Scope → ℕ → Option FunctionResult → List Instr
end_code scope zero result = instr.Stop ∷ []
end_code scope (suc number) result = return_code scope result

-- the code of a block of a number, at a place: its variables, its statement and its end
abbrev pub block_code : Tree → ℕ → Block → Placed
block_code tree number block scope place =
    instr.Enter (count (other_cells tree number)) (count (block_depth block))
    ∷ (stmt_code block.body scope (place + 1) ++ end_code scope number block.heading.result)

-- the code of these blocks, of which the first has this number, one after another from this place on
abbrev pub blocks_code : Tree → List Routine → ℕ → List Block → ℕ → List Instr
blocks_code tree routines number [] place = []
blocks_code tree routines number (block ∷ blocks) place =
    let code = block_code tree number block (block_scope tree routines number) place in
    code ++ blocks_code tree routines (suc number) blocks (place + length code)

-- a routine whose code begins at a place, by the number of its block
abbrev pub routine_at : Tree → ℕ → ℕ → Routine
routine_at tree number place =
    record { level = block_level tree number - 1; cells = count (parameter_cells tree number); place = place }

-- these blocks as routines, of which the first has this number, each with its number for its place
abbrev pub numbered_from : Tree → ℕ → List Block → List Routine
numbered_from tree number [] = []
numbered_from tree number (block ∷ blocks) =
    routine_at tree number number ∷ numbered_from tree (suc number) blocks

abbrev pub numbered : Tree → List Routine
numbered tree = numbered_from tree 0 tree.blocks.items

-- the code of a block whose calls lead to numbers of blocks: as long as with their places
abbrev pub numbered_code : Tree → ℕ → Block → ℕ → List Instr
numbered_code tree number block place = block_code tree number block (block_scope tree (numbered tree) number) place

-- these blocks as routines, one after another from this place on
abbrev pub routines_from : Tree → ℕ → List Block → ℕ → List Routine
routines_from tree number [] place = []
routines_from tree number (block ∷ blocks) place =
    routine_at tree number place
    ∷ routines_from tree (suc number) blocks (place + length (numbered_code tree number block place))

-- the blocks of a program as routines: the code of the program's block comes first
abbrev pub routines_of : Tree → List Routine
routines_of tree = routines_from tree 0 tree.blocks.items 0

-- the code of a program: its blocks, by number
abbrev pub program_code : Tree → List Instr
program_code tree = blocks_code tree (routines_of tree) 0 tree.blocks.items 0
