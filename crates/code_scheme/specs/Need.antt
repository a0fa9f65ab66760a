-- How many cells an activation of a block may need at most; a store with as many as those together that last is never
-- full: 8, the cells of its variables and its result, 1 and the cells of each parameter, and 8 and the cells of its
-- value for each statement and each expression of the block, where a variable that is passed as such, or to which a
-- structured value is copied, counts one cell at most, a set one cell, and a record of a `with` one cell. It does not
-- say how many a frame takes, which is no more.
use Rattle.std.specs.Prelude.{ℕ, ◌+◌, List, Option, Some, None, if◌then◌else◌, map, min, sum, sum_by}
use Rattle.std.specs.Prelude.{slice_get}
use Rattle.std.specs.declared.alloc.Global.{Global}
use Rattle.std.specs.declared.boxed.Box.{Box}
use Rattle.typed_tree.specs.declared.tree.Tree.{Tree}
use Rattle.typed_tree.specs.declared.tree.Block.{Block}
use Rattle.typed_tree.specs.declared.tree.ReadVariable.{ReadVariable}
use Rattle.typed_tree.specs.declared.tree.Width.{Width}
use Rattle.typed_tree.specs.declared.tree.WithRecord.{WithRecord}
use Rattle.typed_tree.specs.declared.tree.WriteParameter.{WriteParameter}
use Rattle.typed_tree.specs.declared.tree.Written.{Written}
use Rattle.typed_tree.specs.declared.tree.Written.TheVariants.{Ordinal, String}
use Rattle.typed_tree.specs.declared.tree.Whole.{Whole}
use Rattle.typed_tree.specs.declared.tree.Variable.{Variable as DeclaredVariable}
use Rattle.typed_tree.specs.declared.tree.Expr.{Expr}
use Rattle.typed_tree.specs.declared.tree.Passed.{Passed}
use Rattle.typed_tree.specs.declared.tree.Expr.TheOpen.{Expr-F, Passed-F, Link-F}
use Rattle.typed_tree.specs.declared.tree.Expr.TheOpen.Expr-F.{Constant, Variable, Monadic as MonadicOf, Chain}
use Rattle.typed_tree.specs.declared.tree.Expr.TheOpen.Expr-F.{Compare, Call as CallOf, Set, Input}
use Rattle.typed_tree.specs.declared.tree.Expr.TheOpen.Passed-F.{Value as PassedValue, Whole as PassedWhole, Reference}
use Rattle.typed_tree.specs.declared.tree.Expr.TheFolds.{fold-Expr, fold-Passed}
use Rattle.typed_tree.specs.declared.tree.Stmt.{Stmt}
use Rattle.typed_tree.specs.declared.tree.Stmt.TheOpen.{Stmt-F}
use Rattle.typed_tree.specs.declared.tree.Stmt.TheOpen.Stmt-F.{Empty, Assign, Write, Compound, If, While, Repeat, For}
use Rattle.typed_tree.specs.declared.tree.Stmt.TheOpen.Stmt-F.{Case, Copy, Call as Calling, With, Read}
use Rattle.typed_tree.specs.declared.tree.Stmt.TheFolds.{fold-Stmt}
use Rattle.types.specs.Forms.{Form}
use Rattle.types.specs.declared.form.TypeId.{TypeId}
use Rattle.types.specs.Types.{cells_of}
use Rattle.typed_tree.specs.WellFormed.{is_parameter_kind, length_of, variables_of, whole_indexes}

-- an expression whose value is an ordinal or a set, which has one cell
abbrev pub one_value : ℕ
one_value = 8 + 1

-- a variable or a component whose value is an ordinal or a set, and the index expressions in it
abbrev pub access_need : List ℕ → ℕ
access_need indexes = one_value + sum indexes

-- an expression whose value has several components, each of which has a cell, and the index expressions in it
abbrev pub whole_need : Whole → List ℕ → ℕ
whole_need value indexes = 8 + length_of value + sum (whole_indexes value indexes)

-- a factor, a sign, or an operator, and what is in it
abbrev pub expr_need_step : Expr-F ℕ ℕ ℕ → ℕ
expr_need_step (Constant number value) = one_value
expr_need_step (Variable access indexes holds defined) = access_need indexes.items
expr_need_step (MonadicOf number operation operand) = one_value + operand.value
expr_need_step (Chain first rest) = first.value + sum rest.items
expr_need_step (Compare number relation left left_indexes right right_indexes) =
    whole_need left left_indexes.items + one_value + whole_need right right_indexes.items
expr_need_step (CallOf call actuals) = one_value + sum actuals.items
expr_need_step (Input number asks) = one_value
expr_need_step (Set number designators members) = one_value + sum members.items

abbrev pub link_need_step : Link-F ℕ ℕ ℕ → ℕ
link_need_step link = one_value + link.operand

-- what may be there
abbrev pub alternative_need : Option (Box ℕ Global) → ℕ
alternative_need None = 0
alternative_need (Some need) = need.value

-- with the types of a program
module _ (types : List Form) where
  -- a variable or a component of any type that is reached by its address alone, and the index expressions in it: a cell
  -- for the address, and none where its value has no cells
  abbrev pub reached_need : TypeId → List ℕ → ℕ
  reached_need type_id indexes = 8 + min 1 (cells_of types type_id) + sum indexes

  -- an actual parameter is an expression, or a variable that is passed as such
  abbrev pub passed_need_step : Passed-F ℕ ℕ ℕ → ℕ
  passed_need_step (PassedValue value fits) = value
  passed_need_step (PassedWhole type_id value indexes) = whole_need value indexes.items
  passed_need_step (Reference type_id access indexes) = reached_need type_id indexes.items

  -- the cells that an expression may need
  abbrev pub expr_need : Expr → ℕ
  expr_need = fold-Expr ℕ ℕ ℕ expr_need_step passed_need_step link_need_step

  -- the same of an actual parameter
  abbrev pub passed_need : Passed → ℕ
  passed_need = fold-Passed ℕ ℕ ℕ expr_need_step passed_need_step link_need_step

  -- the same of the index expressions of an access
  abbrev pub index_needs : List Expr → List ℕ
  index_needs = map expr_need

  abbrev pub width_need : Option Width → ℕ
  width_need None = 0
  width_need (Some width) = expr_need width.value

  -- a value that is written
  abbrev pub written_need : Written → ℕ
  written_need (Ordinal value representation) = expr_need value
  written_need (String value indexes) = whole_need value (index_needs indexes.items)

  abbrev pub parameter_need : WriteParameter → ℕ
  parameter_need parameter = written_need parameter.value + width_need parameter.width

  -- a record of a `with`, whose address has one cell, and the index expressions in it
  abbrev pub record_need : WithRecord → ℕ
  record_need one = access_need (index_needs one.indexes.items)

  -- a variable that is read, which is an expression of one cell
  abbrev pub read_need : ReadVariable → ℕ
  read_need one = access_need (index_needs one.indexes.items)

  -- a statement, which has no value, and what is in it; the target of an assignment is an expression of one cell
  abbrev pub stmt_need_step : Stmt-F ℕ → ℕ
  stmt_need_step (Empty number) = 8
  stmt_need_step (Assign assignment) =
      8 + access_need (index_needs assignment.indexes.items) + expr_need assignment.value
  stmt_need_step (Copy copying) =
      8 + reached_need copying.type_id (index_needs copying.indexes.items)
      + whole_need copying.value (index_needs copying.value_indexes.items)
  stmt_need_step (Write writing) = 8 + sum_by parameter_need writing.parameters.items
  stmt_need_step (Read reading) = 8 + sum_by read_need reading.variables.items
  stmt_need_step (Calling calling) = 8 + sum_by passed_need calling.actuals.items
  stmt_need_step (Compound number statements) = 8 + sum statements.items
  stmt_need_step (If number condition consequence alternative) =
      8 + expr_need condition + consequence.value + alternative_need alternative
  stmt_need_step (While head body) = 8 + expr_need head.condition + body.value
  stmt_need_step (Repeat head statements) = 8 + sum statements.items + expr_need head.condition
  stmt_need_step (For head body) = 8 + expr_need head.first.value + expr_need head.last.value + body.value
  stmt_need_step (Case head arms) = 8 + expr_need head.index + sum arms.items
  stmt_need_step (With head body) = 8 + sum_by record_need head.records.items + body.value

  abbrev pub stmt_need : Stmt → ℕ
  stmt_need = fold-Stmt ℕ stmt_need_step

  -- a variable of a block, or its result; a parameter needs 1 more
  abbrev pub variable_need : DeclaredVariable → ℕ
  variable_need variable =
      if is_parameter_kind variable.kind then 1 + cells_of types variable.type_id else cells_of types variable.type_id

  abbrev pub body_need : Option Block → ℕ
  body_need None = 0
  body_need (Some block) = stmt_need block.body

-- an activation of a block, by its number
abbrev pub block_need : Tree → ℕ → ℕ
block_need tree number =
    8 + sum_by (variable_need tree.types) (variables_of number tree.variables.items)
    + body_need tree.types (slice_get tree.blocks.items number)

-- activations of some blocks together
abbrev pub living_need : Tree → List ℕ → ℕ
living_need tree blocks = sum_by (block_need tree) blocks
