-- How many cells an evaluation needs at once: of an expression, of a value that is written, of a statement. It does not
-- say what they hold.
use Rattle.std.specs.Prelude.{ℕ, ℤ, ◌+◌, max, List, [], ◌∷◌, Option, Some, None, length, map, fold}
use Rattle.std.specs.Global.{Vec}
use Rattle.std.specs.declared.alloc.Global.{Global}
use Rattle.std.specs.declared.boxed.Box.{Box}
use Rattle.typed_tree.specs.declared.tree.Monadic.{Monadic}
use Rattle.typed_tree.specs.declared.tree.Monadic.TheVariants as monadic
use Rattle.typed_tree.specs.declared.tree.Selector.{Selector}
use Rattle.typed_tree.specs.declared.tree.Selector.TheVariants.{Element, Field}
use Rattle.typed_tree.specs.declared.tree.Shift.{Shift}
use Rattle.typed_tree.specs.declared.tree.Shift.TheVariants as shift
use Rattle.typed_tree.specs.declared.tree.Designator.{Designator}
use Rattle.typed_tree.specs.declared.tree.Designator.TheVariants as designator
use Rattle.typed_tree.specs.declared.tree.WithRecord.{WithRecord}
use Rattle.typed_tree.specs.declared.tree.ReadVariable.{ReadVariable}
use Rattle.typed_tree.specs.declared.tree.Width.{Width}
use Rattle.typed_tree.specs.declared.tree.WriteParameter.{WriteParameter}
use Rattle.typed_tree.specs.declared.tree.Written.{Written}
use Rattle.typed_tree.specs.declared.tree.Written.TheVariants.{Ordinal, String}
use Rattle.typed_tree.specs.declared.tree.Whole.{Whole}
use Rattle.typed_tree.specs.declared.tree.Whole.TheVariants.{Text, Variable as VariableOf}
use Rattle.typed_tree.specs.declared.tree.Expr.{Expr}
use Rattle.typed_tree.specs.declared.tree.Link.{Link}
use Rattle.typed_tree.specs.declared.tree.Passed.{Passed}
use Rattle.typed_tree.specs.declared.tree.FunctionResult.{FunctionResult}
use Rattle.typed_tree.specs.declared.tree.Block.{Block}
use Rattle.typed_tree.specs.declared.tree.Expr.TheOpen.{Expr-F, Passed-F, Link-F}
use Rattle.typed_tree.specs.declared.tree.Expr.TheOpen.Expr-F.{Constant, Variable, Monadic as MonadicOf, Chain}
use Rattle.typed_tree.specs.declared.tree.Expr.TheOpen.Expr-F.{Compare, Call as CallOf, Set, Input}
use Rattle.typed_tree.specs.declared.tree.Expr.TheOpen.Passed-F.{Value as PassedValue, Whole as PassedWhole, Reference}
use Rattle.typed_tree.specs.declared.tree.Expr.TheFolds.{fold-Expr, fold-Passed, fold-Link}
use Rattle.typed_tree.specs.declared.tree.Stmt.{Stmt}
use Rattle.typed_tree.specs.declared.tree.Stmt.TheOpen.{Stmt-F}
use Rattle.typed_tree.specs.declared.tree.Stmt.TheOpen.Stmt-F.{Empty, Assign, Write, Compound, If, While, Repeat, For}
use Rattle.typed_tree.specs.declared.tree.Stmt.TheOpen.Stmt-F.{Case, Copy, Call as Calling, With, Read}
use Rattle.typed_tree.specs.declared.tree.Stmt.TheFolds.{fold-Stmt}
use Rattle.typed_tree.specs.WellFormed.{length_of}

-- the greatest of some numbers, or 0
abbrev pub greatest : List ℕ → ℕ
greatest depths = fold max 0 depths

-- how many cells are needed at once behind the test of a number: the next number and the one before come with a 1
-- beside it
abbrev pub shift_depth : Shift → ℕ
shift_depth shift.Same = 1
shift_depth shift.Next = 2
shift_depth shift.Previous = 2

-- the same of an operation on one operand
abbrev pub monadic_depth : Monadic → ℕ
monadic_depth (monadic.Plain does) = 1
monadic_depth (monadic.Tested fits does) = shift_depth does

-- the same of an address: each index that a selector takes is evaluated beside it; one that isn't there needs none
abbrev pub access_depth : List Selector → List ℕ → ℕ
access_depth [] indexes = 1
access_depth (Field position before ∷ selectors) indexes = access_depth selectors indexes
access_depth (Element fits cells ∷ selectors) [] = access_depth selectors []
access_depth (Element fits cells ∷ selectors) (index ∷ indexes) = max (index + 1) (access_depth selectors indexes)

-- the same of a whole value; the address of a variable is taken away before its components come
abbrev pub whole_depth : Whole → List ℕ → ℕ
whole_depth (Text number characters) indexes = length characters.items
whole_depth (VariableOf access type_id cells defined) indexes = max (access_depth access.selectors.items indexes) cells

-- an actual parameter: how many cells its evaluation needs at once, and how many it leaves
pub record PassedDepth : Type 0 where
  pub depth : ℕ
  pub cells : ℕ

abbrev pub passed_depth_step : Passed-F ℕ PassedDepth ℕ → PassedDepth
passed_depth_step (PassedValue value fits) = record { depth = value; cells = 1 }
passed_depth_step (PassedWhole type_id value indexes) =
    record { depth = whole_depth value indexes.items; cells = length_of value }
passed_depth_step (Reference type_id access indexes) =
    record { depth = access_depth access.selectors.items indexes.items; cells = 1 }

-- how many cells actual parameters need at once, one after another, where so many cells are there already
abbrev pub actuals_depth : ℕ → List PassedDepth → ℕ
actuals_depth held [] = held
actuals_depth held (actual ∷ actuals) = max (held + actual.depth) (actuals_depth (held + actual.cells) actuals)

-- a call: its actual parameters stand behind the four links of a frame, in whose place its value comes
abbrev pub call_depth : List PassedDepth → ℕ
call_depth actuals = actuals_depth 4 actuals

-- the designators of a set constructor, where so many sets are there already: the members of each are evaluated beside
-- the set of those before; where none is left, a set is there
abbrev pub designators_depth : ℕ → List Designator → List ℕ → ℕ
designators_depth held [] members = 1
designators_depth held (designator.Single site ∷ others) [] = 1
designators_depth held (designator.Single site ∷ others) (value ∷ members) =
    max (held + value) (designators_depth 1 others members)
designators_depth held (designator.Range site ∷ others) [] = 1
designators_depth held (designator.Range site ∷ others) (first ∷ []) = 1
designators_depth held (designator.Range site ∷ others) (first ∷ last ∷ members) =
    max (held + first) (max (held + 1 + last) (designators_depth 1 others members))

abbrev pub expr_depth_step : Expr-F ℕ PassedDepth ℕ → ℕ
expr_depth_step (Constant number value) = 1
expr_depth_step (Variable access indexes holds defined) = access_depth access.selectors.items indexes.items
expr_depth_step (MonadicOf number operation operand) = max operand.value (monadic_depth operation)
expr_depth_step (Chain first rest) = fold max first.value rest.items
expr_depth_step (Compare number relation left left_indexes right right_indexes) =
    max (whole_depth left left_indexes.items) (max (whole_depth right right_indexes.items + length_of left) 2)
expr_depth_step (CallOf call actuals) = call_depth actuals.items
expr_depth_step (Input number asks) = 1
expr_depth_step (Set number designators members) = designators_depth 0 designators.items members.items

abbrev pub link_depth_step : Link-F ℕ PassedDepth ℕ → ℕ
link_depth_step link = link.operand + 1

-- how many cells the evaluation of an expression needs at once
abbrev pub expr_depth : Expr → ℕ
expr_depth = fold-Expr ℕ PassedDepth ℕ expr_depth_step passed_depth_step link_depth_step

-- the same of an actual parameter
abbrev pub passed_depth : Passed → PassedDepth
passed_depth = fold-Passed ℕ PassedDepth ℕ expr_depth_step passed_depth_step link_depth_step

-- the same of a right operand, beside the value to its left
abbrev pub link_depth : Link → ℕ
link_depth = fold-Link ℕ PassedDepth ℕ expr_depth_step passed_depth_step link_depth_step

-- the same of the index expressions of an access
abbrev pub index_depths : List Expr → List ℕ
index_depths = map expr_depth

-- the same of a width: a default width is pushed too
abbrev pub width_depth : Option Width → ℕ
width_depth None = 1
width_depth (Some width) = expr_depth width.value

-- the same of a value that is written
abbrev pub written_depth : Written → ℕ
written_depth (Ordinal value representation) = expr_depth value
written_depth (String value indexes) = whole_depth value (index_depths indexes.items)

-- how many cells it has
abbrev pub written_cells : Written → ℕ
written_cells (Ordinal value representation) = 1
written_cells (String value indexes) = length_of value

-- how many cells are needed at once to write it: beside it, its width is evaluated
abbrev pub parameter_depth : WriteParameter → ℕ
parameter_depth parameter =
    max (written_depth parameter.value) (width_depth parameter.width + written_cells parameter.value)

-- the same of an assignment: the address of the target, where it is pushed, lies below the value
abbrev pub store_depth : List Selector → List ℕ → ℕ → ℕ
store_depth selectors indexes value = max (access_depth selectors indexes) (value + 1)

-- the same of a variable that is read: the address, where it is pushed, lies below what is read
abbrev pub read_depth : ReadVariable → ℕ
read_depth one = store_depth one.access.selectors.items (index_depths one.indexes.items) 1

-- the same of what may be there
abbrev pub alternative_depth : Option (Box ℕ Global) → ℕ
alternative_depth None = 0
alternative_depth (Some depth) = depth.value

-- the same of the arms of a case statement, each of which stands behind a row of constants
abbrev pub arms_depth : List (Vec ℤ) → List ℕ → ℕ
arms_depth [] depths = 0
arms_depth (row ∷ rows) [] = 0
arms_depth (row ∷ rows) (depth ∷ depths) = max depth (arms_depth rows depths)

-- the same of the records of a `with`: each address is pushed above those before it
abbrev pub records_depth : List WithRecord → ℕ
records_depth [] = 0
records_depth (one ∷ others) =
    max (access_depth one.access.selectors.items (index_depths one.indexes.items)) (records_depth others + 1)

abbrev pub stmt_depth_step : Stmt-F ℕ → ℕ
stmt_depth_step (Empty number) = 0
stmt_depth_step (Assign assignment) =
    store_depth assignment.target.selectors.items (index_depths assignment.indexes.items) (expr_depth assignment.value)
stmt_depth_step (Copy copying) =
    max (access_depth copying.target.selectors.items (index_depths copying.indexes.items))
    (whole_depth copying.value (index_depths copying.value_indexes.items) + 1)
stmt_depth_step (Write writing) = greatest (map parameter_depth writing.parameters.items)
stmt_depth_step (Read reading) = greatest (map read_depth reading.variables.items)
stmt_depth_step (Calling calling) = call_depth (map passed_depth calling.actuals.items)
stmt_depth_step (Compound number statements) = greatest statements.items
stmt_depth_step (If number condition consequence alternative) =
    max (expr_depth condition) (max consequence.value (alternative_depth alternative))
stmt_depth_step (While head body) = max (expr_depth head.condition) body.value
stmt_depth_step (Repeat head statements) = max (greatest statements.items) (expr_depth head.condition)
stmt_depth_step (For head body) =
    max (max (expr_depth head.first.value) (expr_depth head.last.value + 1)) (max 4 (body.value + 2))
stmt_depth_step (Case head arms) = max (expr_depth head.index) (max 3 (arms_depth head.constants.items arms.items + 1))
stmt_depth_step (With head body) =
    max (records_depth head.records.items) (body.value + length head.records.items)

-- how many cells the evaluation of a statement needs at once
abbrev pub stmt_depth : Stmt → ℕ
stmt_depth = fold-Stmt ℕ stmt_depth_step

-- the same of what stands at the end of a routine: its result is pushed
abbrev pub result_depth : Option FunctionResult → ℕ
result_depth None = 0
result_depth (Some result) = 1

-- the same of a block
abbrev pub block_depth : Block → ℕ
block_depth block = max (stmt_depth block.body) (result_depth block.heading.result)
