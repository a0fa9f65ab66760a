-- Which variables a statement spares: it threatens none of them, nor in the statement of a for the control variable of
-- that. It threatens what it assigns, what it passes to a variable parameter, and its control variable, if it is a for
-- (ISO 7185:1990, 6.8.3.9). It says nothing of what calls do.
use Rattle.std.specs.Prelude.{ℕ, suc, ◌++◌, ◌&&◌, Bool, true, List, [], ◌∷◌, Option, Some, None, if◌then◌else◌, map}
use Rattle.std.specs.Prelude.{nat_eq, not}
use Rattle.std.specs.List.{list_all, list_any}
use Rattle.std.specs.declared.alloc.Global.{Global}
use Rattle.std.specs.declared.boxed.Box.{Box}
use Rattle.typed_tree.specs.declared.tree.Block.{Block}
use Rattle.typed_tree.specs.declared.tree.Width.{Width}
use Rattle.typed_tree.specs.declared.tree.WithRecord.{WithRecord}
use Rattle.typed_tree.specs.declared.tree.ReadVariable.{ReadVariable}
use Rattle.typed_tree.specs.declared.tree.WriteParameter.{WriteParameter}
use Rattle.typed_tree.specs.declared.tree.Written.{Written}
use Rattle.typed_tree.specs.declared.tree.Written.TheVariants.{Ordinal, String}
use Rattle.typed_tree.specs.declared.tree.Whole.{Whole}
use Rattle.typed_tree.specs.declared.tree.Whole.TheVariants.{Text, Variable as VariableOf}
use Rattle.typed_tree.specs.declared.tree.Expr.{Expr}
use Rattle.typed_tree.specs.declared.tree.Link.{Link}
use Rattle.typed_tree.specs.declared.tree.Passed.{Passed}
use Rattle.typed_tree.specs.declared.tree.Expr.TheOpen.{Expr-F, Passed-F, Link-F}
use Rattle.typed_tree.specs.declared.tree.Expr.TheOpen.Expr-F.{Constant, Variable, Monadic as MonadicOf, Chain}
use Rattle.typed_tree.specs.declared.tree.Expr.TheOpen.Expr-F.{Compare, Call as CallOf, Set, Input}
use Rattle.typed_tree.specs.declared.tree.Expr.TheOpen.Passed-F.{Value, Whole as WholeOf, Reference}
use Rattle.typed_tree.specs.declared.tree.Expr.TheFolds.{fold-Expr, fold-Passed, fold-Link}
use Rattle.typed_tree.specs.declared.tree.Stmt.{Stmt}
use Rattle.typed_tree.specs.declared.tree.Stmt.TheOpen.{Stmt-F}
use Rattle.typed_tree.specs.declared.tree.Stmt.TheOpen.Stmt-F.{Empty, Assign, Write, Compound, If, While, Repeat, For}
use Rattle.typed_tree.specs.declared.tree.Stmt.TheOpen.Stmt-F.{Case, Copy, Call as Calling, With, Read}
use Rattle.typed_tree.specs.declared.tree.Stmt.TheFolds.{fold-Stmt}
use Rattle.typed_tree.specs.Loops.{controls_of}

-- they all hold
abbrev pub all_so : List Bool → Bool
all_so tests = list_all (λ b. b) tests

-- the index expressions of a whole value; a string has none
abbrev pub indexes_so : Whole → List Bool → Bool
indexes_so (Text number characters) tests = true
indexes_so (VariableOf access type_id cells defined) tests = all_so tests

-- none of these variables is the one of this root
abbrev pub is_none_of : List ℕ → ℕ → Bool
is_none_of roots root = not (list_any (λ one. nat_eq one root) roots)

-- ---- expressions, which pass variables in calls

module _ (roots : List ℕ) where
  abbrev pub link_spares : Link-F Bool Bool Bool → Bool
  link_spares link = link.operand

  abbrev pub passed_spares : Passed-F Bool Bool Bool → Bool
  passed_spares (Value value fits) = value
  passed_spares (WholeOf type_id value indexes) = indexes_so value indexes.items
  passed_spares (Reference type_id access indexes) = all_so indexes.items && is_none_of roots access.root

  abbrev pub expr_spares : Expr-F Bool Bool Bool → Bool
  expr_spares (Constant number value) = true
  expr_spares (Variable access indexes held defined) = all_so indexes.items
  expr_spares (MonadicOf number operation operand) = operand.value
  expr_spares (Chain first rest) = first.value && all_so rest.items
  expr_spares (Compare number relation left left_indexes right right_indexes) =
      indexes_so left left_indexes.items && indexes_so right right_indexes.items
  expr_spares (CallOf call actuals) = all_so actuals.items
  expr_spares (Input number asks) = true
  expr_spares (Set number designators members) = all_so members.items

  -- an expression spares these variables
  abbrev pub spares_in_expr : Expr → Bool
  spares_in_expr = fold-Expr Bool Bool Bool expr_spares passed_spares link_spares

  -- an actual parameter does
  abbrev pub spares_in_passed : Passed → Bool
  spares_in_passed = fold-Passed Bool Bool Bool expr_spares passed_spares link_spares

  -- an operator with its right operand does
  abbrev pub spares_in_link : Link → Bool
  spares_in_link = fold-Link Bool Bool Bool expr_spares passed_spares link_spares

  -- index expressions do
  abbrev pub spares_in_indexes : List Expr → Bool
  spares_in_indexes indexes = all_so (map spares_in_expr indexes)

  -- a whole value with its index expressions does
  abbrev pub spares_in_whole : Whole → List Expr → Bool
  spares_in_whole value indexes = indexes_so value (map spares_in_expr indexes)

  -- a value that is written, and its width
  abbrev pub spares_in_written : Written → Bool
  spares_in_written (Ordinal value representation) = spares_in_expr value
  spares_in_written (String value indexes) = spares_in_whole value indexes.items

  abbrev pub spares_in_width : Option Width → Bool
  spares_in_width None = true
  spares_in_width (Some width) = spares_in_expr width.value

  abbrev pub spares_in_parameter : WriteParameter → Bool
  spares_in_parameter parameter = spares_in_written parameter.value && spares_in_width parameter.width

  -- a record of a with, which is accessed alone
  abbrev pub spares_in_record : WithRecord → Bool
  spares_in_record one = spares_in_indexes one.indexes.items

  -- a variable that is read is changed
  abbrev pub spares_in_read : ReadVariable → Bool
  spares_in_read one = spares_in_indexes one.indexes.items && is_none_of roots one.access.root

-- ---- statements

-- whether something spares variables
abbrev pub Spares : Type 0
Spares = List ℕ → Bool

abbrev pub all_spare : List Spares → Spares
all_spare statements roots = list_all (λ statement. statement roots) statements

-- the statement behind `else`, where there is one
abbrev pub alternative_spares : Option (Box Spares Global) → Spares
alternative_spares None roots = true
alternative_spares (Some statement) roots = statement.value roots

abbrev pub statement_spares : Stmt-F Spares → Spares
statement_spares (Empty number) roots = true
statement_spares (Assign assignment) roots =
    spares_in_indexes roots assignment.indexes.items
    && (is_none_of roots assignment.target.root && spares_in_expr roots assignment.value)
statement_spares (Copy copying) roots =
    spares_in_indexes roots copying.indexes.items
    && (is_none_of roots copying.target.root && spares_in_whole roots copying.value copying.value_indexes.items)
statement_spares (Write writing) roots = all_so (map (spares_in_parameter roots) writing.parameters.items)
statement_spares (Read reading) roots = all_so (map (spares_in_read roots) reading.variables.items)
statement_spares (Calling calling) roots = all_so (map (spares_in_passed roots) calling.actuals.items)
statement_spares (Compound number statements) roots = all_spare statements.items roots
statement_spares (If number condition consequence alternative) roots =
    spares_in_expr roots condition && (consequence.value roots && alternative_spares alternative roots)
statement_spares (While head body) roots = spares_in_expr roots head.condition && body.value roots
statement_spares (Repeat head statements) roots =
    all_spare statements.items roots && spares_in_expr roots head.condition
statement_spares (For head body) roots =
    is_none_of roots head.control
    && (spares_in_expr roots head.first.value
    && (spares_in_expr roots head.last.value && body.value (head.control ∷ roots)))
statement_spares (Case head arms) roots = spares_in_expr roots head.index && all_spare arms.items roots
statement_spares (With head body) roots =
    all_so (map (spares_in_record roots) head.records.items) && body.value roots

-- a statement spares these variables
abbrev pub spares : Stmt → Spares
spares = fold-Stmt Spares statement_spares

-- ---- blocks

-- the control variables of the for statements of these blocks, which are numbered from one on, but for a block
abbrev pub controls_but : ℕ → ℕ → List Block → List ℕ
controls_but but number [] = []
controls_but but number (block ∷ blocks) =
    (if nat_eq number but then [] else controls_of block.body) ++ controls_but but (suc number) blocks
