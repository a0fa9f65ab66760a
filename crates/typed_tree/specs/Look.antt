-- How a typed tree looks: its forms in the order of the text, each told by what is decided of it: its number in the
-- order of entry, the variable, the operation, its sites and places. What encloses others tells where it ends, so two
-- trees that look alike are alike. It says nothing of which tree a program has.
use Rattle.std.specs.Prelude.{ℕ, ℤ, ◌++◌, ◌&&◌, Bool, true, false, List, []}
use Rattle.std.specs.Prelude.{◌∷◌, Option, Some, None, Vec, flat_map, map, nat_lt, length}
use Rattle.std.specs.List.{list_all}
use Rattle.std.specs.declared.alloc.Global.{Global}
use Rattle.std.specs.declared.boxed.Box.{Box}
use Rattle.place.specs.declared.Place.{Place}
use Rattle.typed_tree.specs.declared.tree.Tree.{Tree}
use Rattle.types.specs.declared.form.TypeId.{TypeId}
use Rattle.types.specs.declared.form.OrdinalRange.{OrdinalRange}
use Rattle.typed_tree.specs.declared.tree.Access.{Access as VariableAccess}
use Rattle.typed_tree.specs.declared.tree.Selector.{Selector}
use Rattle.typed_tree.specs.declared.tree.Block.{Block}
use Rattle.typed_tree.specs.declared.tree.Call.{Call}
use Rattle.typed_tree.specs.declared.tree.Heading.{Heading}
use Rattle.typed_tree.specs.declared.tree.FunctionResult.{FunctionResult}
use Rattle.typed_tree.specs.declared.tree.Designator.{Designator}
use Rattle.typed_tree.specs.declared.tree.Monadic.{Monadic}
use Rattle.typed_tree.specs.declared.tree.Dyadic.{Dyadic}
use Rattle.typed_tree.specs.declared.tree.Dyadic.TheVariants as dyadic
use Rattle.typed_tree.specs.declared.tree.RangeTest.{RangeTest}
use Rattle.typed_tree.specs.declared.tree.Scalar.{Scalar}
use Rattle.typed_tree.specs.declared.tree.Direction.{Direction}
use Rattle.typed_tree.specs.declared.tree.Representation.{Representation}
use Rattle.typed_tree.specs.declared.tree.Width.{Width as TotalWidth}
use Rattle.typed_tree.specs.declared.tree.WithRecord.{WithRecord}
use Rattle.typed_tree.specs.declared.tree.ReadVariable.{ReadVariable}
use Rattle.typed_tree.specs.declared.tree.Readable.{Readable}
use Rattle.typed_tree.specs.declared.tree.InputTest.{InputTest}
use Rattle.typed_tree.specs.declared.tree.WriteParameter.{WriteParameter}
use Rattle.typed_tree.specs.declared.tree.Written.{Written as WrittenValue}
use Rattle.typed_tree.specs.declared.tree.Written.TheVariants.{Ordinal, String}
use Rattle.typed_tree.specs.declared.tree.Whole.{Whole}
use Rattle.typed_tree.specs.declared.tree.Whole.TheVariants.{Text as TextOf, Variable as WholeOf}
use Rattle.typed_tree.specs.declared.tree.Expr.{Expr}
use Rattle.typed_tree.specs.declared.tree.Link.{Link}
use Rattle.typed_tree.specs.declared.tree.Passed.{Passed}
use Rattle.typed_tree.specs.declared.tree.Expr.TheOpen.{Expr-F, Passed-F, Link-F}
use Rattle.typed_tree.specs.declared.tree.Expr.TheOpen.Expr-F.{Constant as ConstantOf, Variable as VariableOf}
use Rattle.typed_tree.specs.declared.tree.Expr.TheOpen.Expr-F.{Monadic as MonadicOf, Chain as ChainOf}
use Rattle.typed_tree.specs.declared.tree.Expr.TheOpen.Expr-F.{Compare as CompareOf, Call as CallOf, Set as SetOf}
use Rattle.typed_tree.specs.declared.tree.Expr.TheOpen.Expr-F.{Input as InputOf}
use Rattle.typed_tree.specs.declared.tree.Expr.TheOpen.Passed-F.{Value as PassedValue, Whole as PassedWhole, Reference}
use Rattle.typed_tree.specs.declared.tree.Expr.TheFolds.{fold-Expr, fold-Passed, fold-Link}
use Rattle.typed_tree.specs.declared.tree.Stmt.{Stmt}
use Rattle.typed_tree.specs.declared.tree.Stmt.TheOpen.{Stmt-F}
use Rattle.typed_tree.specs.declared.tree.Stmt.TheOpen.Stmt-F.{Empty as EmptyOf, Assign as AssignOf, Write as WriteOf}
use Rattle.typed_tree.specs.declared.tree.Stmt.TheOpen.Stmt-F.{Compound as CompoundOf, If as IfOf, While as WhileOf}
use Rattle.typed_tree.specs.declared.tree.Stmt.TheOpen.Stmt-F.{Repeat as RepeatOf, For as ForOf, Case as CaseOf}
use Rattle.typed_tree.specs.declared.tree.Stmt.TheOpen.Stmt-F.{Copy as CopyOf, Call as Calling, With as WithOf}
use Rattle.typed_tree.specs.declared.tree.Stmt.TheOpen.Stmt-F.{Read as ReadOf}
use Rattle.typed_tree.specs.declared.tree.Stmt.TheFolds.{fold-Stmt}
use Rattle.typed_tree.specs.Accesses.{Origin, AtVariable, origin_of}
use Rattle.typed_tree.specs.Entries.{in_text, joined}
use Rattle.typed_tree.specs.WellFormed.{Outline, is_whole, are_characters, length_of, monadic_is_well_formed, placed}
use Rattle.typed_tree.specs.WellFormed.{are_designators, compare, dyadic_is_well_formed, fits_target, is_control}
use Rattle.typed_tree.specs.WellFormed.{is_text}
use Rattle.typed_tree.specs.WellFormed.{leads_to_held, leads_to_record, leads_to_scalar, leads_to_whole, is_value_of}
use Rattle.typed_tree.specs.WellFormed.{may_call, may_copy, passes_value, passes_variable}
use Rattle.typed_tree.specs.WellFormed.{passes_whole, source_of, is_well_formed_input, is_well_formed_line}
use Rattle.typed_tree.specs.WellFormed.{leads_to_read}

-- a form, or where one ends; numbers are those of entries
pub data Mark : Type 0 where
  -- its number and its value
  Constant : ℕ → ℤ → Mark
  -- the number of an access; its index expressions stand behind it
  Access : ℕ → Mark
  -- the value of what is accessed: where the access begins, the selectors, how many index expressions they take,
  -- whether it is an ordinal or a set, and the site of the test
  Value : Origin → List Selector → ℕ → Scalar → ℕ → Mark
  -- the same of a structured type: this type, and how many cells its value has
  WholeValue : Origin → List Selector → ℕ → TypeId → ℕ → ℕ → Mark
  -- the number of an operation on the operand behind it
  Operation : ℕ → Mark
  -- the operation on the operand before it
  Applied : Monadic → Mark
  -- a chain of operators begins
  Begins : Mark
  -- an operator between operands
  Operator : ℕ → Dyadic → Mark
  -- a call: its number, the place of its name, and the block that is called
  Calls : ℕ → Place → ℕ → Mark
  -- the value before it is passed to the block that is called, to the formal parameter at this place; so is the whole
  -- value before it, to one of a type: a value of this other type, or else a string, of so many cells; and so is what
  -- was accessed before it: its type, where the access begins, the selectors, and how many index expressions they take
  ForValue : RangeTest → ℕ → ℕ → Mark
  ForWhole : TypeId → Option TypeId → ℕ → ℕ → ℕ → Mark
  ForVariable : TypeId → Origin → List Selector → ℕ → ℕ → ℕ → Mark
  -- a function, or else a procedure, is called: this block, with so many actual parameters
  Called : Bool → ℕ → ℕ → Mark
  -- the number of a set constructor, whose members stand behind it; its designators, and how many members it has
  Constructs : ℕ → Mark
  Constructed : List Designator → ℕ → Mark
  -- a chain, a write, a compound statement, an if, a loop or a case ends
  Ends : Mark
  Empty : ℕ → Mark
  -- an assignment, with the place of `:=`
  Assign : ℕ → Place → Mark
  -- what is accessed left of `:=`, an ordinal or a set: where the access begins, the selectors, and how many index
  -- expressions they take
  Target : Origin → List Selector → ℕ → Mark
  -- the same of a structured type
  WholeTarget : Origin → List Selector → ℕ → TypeId → Mark
  -- the value before it is copied to a target of a type: a value of this other type, or else a string, of so many cells
  Copied : TypeId → Option TypeId → ℕ → Mark
  -- the test of the value before it, which is for what is accessed from here by these selectors
  Fits : Origin → List Selector → RangeTest → Mark
  -- a write, with the place of its name; or a writeln, which ends the line
  Write : ℕ → Place → Bool → Mark
  -- a read, with the place of its name; or a readln, with the point at which it wants a line end
  Read : ℕ → Place → Option ℕ → Mark
  -- what was accessed before it is read: where the access begins, the selectors, and how many index expressions they
  -- take; what is read, at which point, and the values that it may have
  Reads : Origin → List Selector → ℕ → Readable → ℕ → OrdinalRange → Mark
  -- what is asked of the input
  Input : ℕ → InputTest → Mark
  -- a string: its number and its characters
  Text : ℕ → List ℕ → Mark
  -- the two strings before it are compared: of each the type of the variable whose value it is, if it is one, and how
  -- many components it has
  Compared : Option TypeId → ℕ → Option TypeId → ℕ → Mark
  -- how the ordinal before it is written
  Written : Representation → Mark
  -- the string before it is written: the type of the variable whose value it is, if it is one
  WrittenString : Option TypeId → Mark
  -- the site of the width before it
  Width : ℕ → Mark
  Compound : ℕ → Mark
  -- an if; the statement behind `then` begins; that behind `else` begins
  If : ℕ → Mark
  Then : Mark
  Else : Mark
  -- a while: its number, the loop's number, the place of its word; its body begins
  While : ℕ → ℕ → Place → Mark
  Do : Mark
  -- a repeat: its number, the loop's number, the place of its word; its condition begins
  Repeat : ℕ → ℕ → Place → Mark
  Until : Mark
  -- a for: its number, the loop's number, the place of its word, the root of its control variable, and its way
  For : ℕ → ℕ → Place → ℕ → Direction → Mark
  -- the statement of a for begins, whose control variable has this root; that statement ends
  Controls : ℕ → Mark
  ForEnds : Mark
  -- a case: its number, and its site; an arm begins, behind these constants
  Case : ℕ → ℕ → Mark
  Arm : List ℤ → Mark
  -- a with: its number, and the slot of its first record
  With : ℕ → ℕ → Mark
  -- what was accessed before it is a record of a with: where the access begins, the selectors, and how many index
  -- expressions they take; the statement of a with ends, whose first record has this slot
  Opens : Origin → List Selector → ℕ → Mark
  WithEnds : ℕ → Mark
  -- a block ends, of this number and with this heading: the blocks round it, its parameters, its result; at its last
  -- `end`
  BlockEnds : ℕ → List ℕ → List ℕ → Option FunctionResult → Place → Mark

abbrev pub Look : Type 0
Look = List Mark

-- an access: its number, its index expressions, and what is done with it
abbrev pub access_look : VariableAccess → List Look → Mark → Look
access_look access indexes does = Access access.number ∷ (joined indexes ++ (does ∷ []))

abbrev pub whole_look : Whole → List Look → Look
whole_look (TextOf number characters) indexes = Text number characters.items ∷ []
whole_look (WholeOf access type_id cells defined) indexes =
    access_look access indexes
    (WholeValue (origin_of access) access.selectors.items (length indexes) type_id cells defined)

abbrev pub link_look : Link-F Look (ℕ → ℕ → Look) Look → Look
link_look link = Operator link.number link.operation ∷ link.operand

-- an actual parameter, for the block that is called and the place of the formal one
abbrev pub passed_look : Passed-F Look (ℕ → ℕ → Look) Look → ℕ → ℕ → Look
passed_look (PassedValue value fits) callee position = value ++ (ForValue fits callee position ∷ [])
passed_look (PassedWhole type_id value indexes) callee position =
    whole_look value indexes.items ++ (ForWhole type_id (source_of value) (length_of value) callee position ∷ [])
passed_look (Reference type_id access indexes) callee position =
    access_look access indexes.items
    (ForVariable type_id (origin_of access) access.selectors.items (length indexes.items) callee position)

-- a call of a function, or of a procedure
abbrev pub call_look : Bool → Call → List (ℕ → ℕ → Look) → Look
call_look is_function call actuals =
    Calls call.number call.name call.block
    ∷ (joined (placed call.block 0 actuals) ++ (Called is_function call.block (length actuals) ∷ []))

-- two whole values are compared
abbrev pub compared : Whole → Whole → Mark
compared left right = Compared (source_of left) (length_of left) (source_of right) (length_of right)

abbrev pub expression_look : Expr-F Look (ℕ → ℕ → Look) Look → Look
expression_look (ConstantOf number value) = Constant number value ∷ []
expression_look (VariableOf access indexes held defined) =
    access_look access indexes.items
    (Value (origin_of access) access.selectors.items (length indexes.items) held defined)
expression_look (MonadicOf number operation operand) = Operation number ∷ (operand.value ++ (Applied operation ∷ []))
expression_look (ChainOf first rest) = Begins ∷ (first.value ++ (joined rest.items ++ (Ends ∷ [])))
expression_look (CompareOf number relation left left_indexes right right_indexes) =
    Begins
    ∷ (whole_look left left_indexes.items
    ++ (Operator number (dyadic.Relation relation)
    ∷ (whole_look right right_indexes.items ++ (compared left right ∷ Ends ∷ []))))
expression_look (CallOf call actuals) = call_look true call actuals.items
expression_look (InputOf number asks) = Input number asks ∷ []
expression_look (SetOf number designators members) =
    Constructs number ∷ (joined members.items ++ (Constructed designators.items (length members.items) ∷ []))

-- how an expression looks
abbrev pub look_expr : Expr → Look
look_expr = fold-Expr Look (ℕ → ℕ → Look) Look expression_look passed_look link_look

-- how an actual parameter looks
abbrev pub look_passed : Passed → ℕ → ℕ → Look
look_passed = fold-Passed Look (ℕ → ℕ → Look) Look expression_look passed_look link_look

-- how a call looks with its actual parameters
abbrev pub look_call : Bool → Call → List Passed → Look
look_call is_function call actuals = call_look is_function call (map look_passed actuals)

-- how an operator and its right operand look
abbrev pub look_link : Link → Look
look_link = fold-Link Look (ℕ → ℕ → Look) Look expression_look passed_look link_look

-- how the index expressions of an access look
abbrev pub look_indexes : List Expr → List Look
look_indexes = map look_expr

-- how a whole value looks
abbrev pub look_whole : Whole → List Expr → Look
look_whole value indexes = whole_look value (look_indexes indexes)

-- how an access looks with which this is done
abbrev pub look_access : VariableAccess → List Expr → Mark → Look
look_access access indexes does = access_look access (look_indexes indexes) does

abbrev pub look_width : Option TotalWidth → Look
look_width None = []
look_width (Some width) = look_expr width.value ++ (Width width.site ∷ [])

-- how a value that is written looks
abbrev pub look_written : WrittenValue → Look
look_written (Ordinal value representation) = look_expr value ++ (Written representation ∷ [])
look_written (String value indexes) = look_whole value indexes.items ++ (WrittenString (source_of value) ∷ [])

-- the same with its width
abbrev pub look_parameter : WriteParameter → Look
look_parameter parameter = look_written parameter.value ++ look_width parameter.width

-- how a record of a with looks
abbrev pub look_record : WithRecord → Look
look_record one =
    look_access one.access one.indexes.items
    (Opens (origin_of one.access) one.access.selectors.items (length one.indexes.items))

-- how a variable that is read looks
abbrev pub look_read : ReadVariable → Look
look_read one =
    look_access one.access one.indexes.items
    (Reads (origin_of one.access) one.access.selectors.items (length one.indexes.items) one.reads one.point one.range)

-- how the statement behind `else` looks, where there is one
abbrev pub look_alternative : Option (Box Look Global) → Look
look_alternative None = []
look_alternative (Some look) = Else ∷ look.value

-- the n-th row of constants stands before the n-th arm
abbrev pub arms_look : List (Vec ℤ Global) → List Look → Look
arms_look rows [] = flat_map (λ row. Arm row.items ∷ []) rows
arms_look [] (arm ∷ arms) = arm ++ arms_look [] arms
arms_look (row ∷ rows) (arm ∷ arms) = Arm row.items ∷ (arm ++ arms_look rows arms)

abbrev pub statement_look : Stmt-F Look → Look
statement_look (EmptyOf number) = Empty number ∷ []
statement_look (AssignOf assignment) =
    Assign assignment.number assignment.becomes
    ∷ (look_access assignment.target assignment.indexes.items
    (Target (origin_of assignment.target) assignment.target.selectors.items (length assignment.indexes.items))
    ++ (look_expr assignment.value
    ++ (Fits (origin_of assignment.target) assignment.target.selectors.items assignment.fits ∷ [])))
statement_look (CopyOf copying) =
    Assign copying.number copying.becomes
    ∷ (look_access copying.target copying.indexes.items
    (WholeTarget (origin_of copying.target) copying.target.selectors.items (length copying.indexes.items)
    copying.type_id)
    ++ (look_whole copying.value copying.value_indexes.items
    ++ (Copied copying.type_id (source_of copying.value) (length_of copying.value) ∷ [])))
statement_look (WriteOf writing) =
    Write writing.number writing.name writing.ends_line
    ∷ (flat_map look_parameter writing.parameters.items ++ (Ends ∷ []))
statement_look (ReadOf reading) =
    Read reading.number reading.name reading.line ∷ (flat_map look_read reading.variables.items ++ (Ends ∷ []))
statement_look (Calling calling) = look_call false calling.call calling.actuals.items
statement_look (CompoundOf number statements) = Compound number ∷ (joined statements.items ++ (Ends ∷ []))
statement_look (IfOf number condition consequence alternative) =
    If number
    ∷ (look_expr condition ++ (Then ∷ (consequence.value ++ (look_alternative alternative ++ (Ends ∷ [])))))
statement_look (WhileOf head body) =
    While head.number head.loop_number head.place ∷ (look_expr head.condition ++ (Do ∷ (body.value ++ (Ends ∷ []))))
statement_look (RepeatOf head statements) =
    Repeat head.number head.loop_number head.place
    ∷ (joined statements.items ++ (Until ∷ (look_expr head.condition ++ (Ends ∷ []))))
statement_look (ForOf head body) =
    For head.number head.loop_number head.place head.control head.direction
    ∷ (look_expr head.first.value
    ++ (Fits (AtVariable head.control) [] head.first.fits
    ∷ (look_expr head.last.value
    ++ (Fits (AtVariable head.control) [] head.last.fits
    ∷ Controls head.control ∷ (body.value ++ (ForEnds ∷ []))))))
statement_look (CaseOf head arms) =
    Case head.number head.site ∷ (look_expr head.index ++ (arms_look head.constants.items arms.items ++ (Ends ∷ [])))
statement_look (WithOf head body) =
    With head.number head.first_slot
    ∷ (flat_map look_record head.records.items ++ (Do ∷ (body.value ++ (WithEnds head.first_slot ∷ []))))

-- how a statement looks
abbrev pub look_stmt : Stmt → Look
look_stmt = fold-Stmt Look statement_look

-- how a block of a number ends
abbrev pub heading_look : ℕ → Heading → Place → Mark
heading_look number heading end = BlockEnds number heading.around.items heading.parameters.items heading.result end

-- how a block of a number looks
abbrev pub look_block : ℕ → Block → Look
look_block number block = look_stmt block.body ++ (heading_look number block.heading block.end ∷ [])

-- how a tree looks: its blocks in the order in which the text has their statements
abbrev pub tree_look : Tree → Look
tree_look = in_text look_block

-- the number of an entry
abbrev pub mark_entries : Mark → List ℕ
mark_entries (Constant number value) = number ∷ []
mark_entries (Access number) = number ∷ []
mark_entries (Value origin selectors indexes held defined) = []
mark_entries (WholeValue origin selectors indexes type_id cells defined) = []
mark_entries (Operation number) = number ∷ []
mark_entries (Applied operation) = []
mark_entries Begins = []
mark_entries (Operator number operation) = number ∷ []
mark_entries (Calls number name block) = number ∷ []
mark_entries (ForValue fits callee position) = []
mark_entries (ForWhole type_id source cells callee position) = []
mark_entries (ForVariable type_id origin selectors indexes callee position) = []
mark_entries (Called is_function callee count) = []
mark_entries (Constructs number) = number ∷ []
mark_entries (Constructed designators members) = []
mark_entries Ends = []
mark_entries (Empty number) = number ∷ []
mark_entries (Assign number becomes) = number ∷ []
mark_entries (Target origin selectors indexes) = []
mark_entries (WholeTarget origin selectors indexes type_id) = []
mark_entries (Copied type_id source cells) = []
mark_entries (Fits origin selectors fits) = []
mark_entries (Write number name ends_line) = number ∷ []
mark_entries (Read number name line) = number ∷ []
mark_entries (Reads origin selectors indexes reads point range) = []
mark_entries (Input number asks) = number ∷ []
mark_entries (Text number characters) = number ∷ []
mark_entries (Compared left length right other) = []
mark_entries (Written representation) = []
mark_entries (WrittenString source) = []
mark_entries (Width site) = []
mark_entries (Compound number) = number ∷ []
mark_entries (If number) = number ∷ []
mark_entries Then = []
mark_entries Else = []
mark_entries (While number loop_number place) = number ∷ []
mark_entries Do = []
mark_entries (Repeat number loop_number place) = number ∷ []
mark_entries Until = []
mark_entries (For number loop_number place control direction) = number ∷ []
mark_entries (Controls control) = []
mark_entries ForEnds = []
mark_entries (Case number site) = number ∷ []
mark_entries (Arm constants) = []
mark_entries (With number first_slot) = number ∷ []
mark_entries (Opens origin selectors indexes) = []
mark_entries (WithEnds first_slot) = []
mark_entries (BlockEnds number around parameters result end) = []

-- the numbers of the entries of what looks so
abbrev pub entries_of_look : Look → List ℕ
entries_of_look = flat_map mark_entries

-- the number of a loop
abbrev pub mark_loops : Mark → List ℕ
mark_loops (While number loop_number place) = loop_number ∷ []
mark_loops (Repeat number loop_number place) = loop_number ∷ []
mark_loops (For number loop_number place control direction) = loop_number ∷ []
mark_loops other = []

-- the numbers of the loops of what looks so
abbrev pub loops_of_look : Look → List ℕ
loops_of_look = flat_map mark_loops

-- with what a program declares, a form alone is well formed in a block of this number
abbrev pub is_formed_mark : Outline → ℕ → Mark → Bool
is_formed_mark outline block (Constant number value) = is_whole value
is_formed_mark outline block (Access number) = true
is_formed_mark outline block (Value origin selectors indexes held defined) =
    leads_to_held outline block held origin selectors indexes && nat_lt defined outline.sites
is_formed_mark outline block (WholeValue origin selectors indexes type_id cells defined) =
    leads_to_whole outline block type_id origin selectors indexes
    && (is_value_of outline block type_id cells && nat_lt defined outline.sites)
is_formed_mark outline block (Operation number) = true
is_formed_mark outline block (Applied operation) = monadic_is_well_formed outline block operation
is_formed_mark outline block Begins = true
is_formed_mark outline block (Operator number operation) = dyadic_is_well_formed outline block operation
is_formed_mark outline block (Calls number name callee) = true
is_formed_mark outline block (ForValue fits callee position) = passes_value outline block fits callee position
is_formed_mark outline block (ForWhole type_id source cells callee position) =
    passes_whole outline block type_id source cells callee position
is_formed_mark outline block (ForVariable type_id origin selectors indexes callee position) =
    passes_variable outline block type_id origin selectors indexes callee position
is_formed_mark outline block (Called is_function callee count) = may_call outline block is_function callee count
is_formed_mark outline block (Constructs number) = true
is_formed_mark outline block (Constructed designators members) = are_designators outline block designators members
is_formed_mark outline block Ends = true
is_formed_mark outline block (Empty number) = true
is_formed_mark outline block (Assign number becomes) = true
is_formed_mark outline block (Target origin selectors indexes) = leads_to_scalar outline block origin selectors indexes
is_formed_mark outline block (WholeTarget origin selectors indexes type_id) =
    leads_to_whole outline block type_id origin selectors indexes
is_formed_mark outline block (Copied type_id source cells) = may_copy outline block type_id source cells
is_formed_mark outline block (Fits origin selectors fits) = fits_target outline block fits origin selectors
is_formed_mark outline block (Write number name ends_line) = true
is_formed_mark outline block (Read number name line) = is_well_formed_line outline block line
is_formed_mark outline block (Reads origin selectors indexes reads point range) =
    leads_to_read outline block point range origin selectors indexes
is_formed_mark outline block (Input number asks) = is_well_formed_input outline block asks
is_formed_mark outline block (Text number characters) = are_characters characters
is_formed_mark outline block (Compared left length right other) = compare outline block left length right other
is_formed_mark outline block (Written representation) = true
is_formed_mark outline block (WrittenString source) = is_text outline.types source
is_formed_mark outline block (Width site) = nat_lt site outline.sites
is_formed_mark outline block (Compound number) = true
is_formed_mark outline block (If number) = true
is_formed_mark outline block Then = true
is_formed_mark outline block Else = true
is_formed_mark outline block (While number loop_number place) = true
is_formed_mark outline block Do = true
is_formed_mark outline block (Repeat number loop_number place) = true
is_formed_mark outline block Until = true
is_formed_mark outline block (For number loop_number place control direction) = is_control outline block control
is_formed_mark outline block (Controls control) = true
is_formed_mark outline block ForEnds = true
is_formed_mark outline block (Case number site) = nat_lt site outline.sites
is_formed_mark outline block (Arm constants) = list_all is_whole constants
is_formed_mark outline block (With number first_slot) = true
is_formed_mark outline block (Opens origin selectors indexes) = leads_to_record outline block origin selectors indexes
is_formed_mark outline block (WithEnds first_slot) = true
is_formed_mark outline block (BlockEnds number around parameters result end) = true

-- the number of a block that ends
abbrev pub mark_blocks : Mark → List ℕ
mark_blocks (BlockEnds number around parameters result end) = number ∷ []
mark_blocks other = []

-- the numbers of the blocks that end in what looks so
abbrev pub blocks_of_look : Look → List ℕ
blocks_of_look = flat_map mark_blocks

-- the first of these, which are the blocks that end next
abbrev pub next_of : List ℕ → ℕ
next_of [] = 0
next_of (number ∷ numbers) = number

-- with what a program declares, each form alone is well formed in the block that ends next
abbrev pub are_formed : Outline → Look → Bool
are_formed outline [] = true
are_formed outline (mark ∷ marks) =
    is_formed_mark outline (next_of (blocks_of_look (mark ∷ marks))) mark && are_formed outline marks
