-- What is compared or written as a whole is a string (ISO 7185:1990, 6.4.3.2, 6.7.2.5, 6.9.3.6). It says nothing of how
-- long one is.
use Rattle.std.specs.Prelude.{◌&&◌, Bool, true, List, Option, Some, None, map}
use Rattle.std.specs.declared.alloc.Global.{Global}
use Rattle.std.specs.declared.boxed.Box.{Box}
use Rattle.types.specs.Forms.{Form}
use Rattle.types.specs.Types.{is_string}
use Rattle.typed_tree.specs.declared.tree.ReadVariable.{ReadVariable}
use Rattle.typed_tree.specs.declared.tree.Width.{Width}
use Rattle.typed_tree.specs.declared.tree.WithRecord.{WithRecord}
use Rattle.typed_tree.specs.declared.tree.WriteParameter.{WriteParameter}
use Rattle.typed_tree.specs.declared.tree.Written.{Written}
use Rattle.typed_tree.specs.declared.tree.Written.TheVariants.{Ordinal, String}
use Rattle.typed_tree.specs.declared.tree.Whole.{Whole}
use Rattle.typed_tree.specs.declared.tree.Whole.TheVariants.{Text, Variable as VariableOf}
use Rattle.typed_tree.specs.declared.tree.Expr.{Expr}
use Rattle.typed_tree.specs.declared.tree.Passed.{Passed}
use Rattle.typed_tree.specs.declared.tree.Expr.TheOpen.{Expr-F, Passed-F, Link-F}
use Rattle.typed_tree.specs.declared.tree.Expr.TheOpen.Expr-F.{Constant, Variable, Monadic as MonadicOf, Chain}
use Rattle.typed_tree.specs.declared.tree.Expr.TheOpen.Expr-F.{Compare, Call as CallOf, Set, Input}
use Rattle.typed_tree.specs.declared.tree.Expr.TheOpen.Passed-F.{Value, Whole as WholeOf, Reference}
use Rattle.typed_tree.specs.declared.tree.Expr.TheFolds.{fold-Expr, fold-Passed}
use Rattle.typed_tree.specs.declared.tree.Stmt.{Stmt}
use Rattle.typed_tree.specs.declared.tree.Stmt.TheOpen.{Stmt-F}
use Rattle.typed_tree.specs.declared.tree.Stmt.TheOpen.Stmt-F.{Empty, Assign, Write, Compound, If, While, Repeat, For}
use Rattle.typed_tree.specs.declared.tree.Stmt.TheOpen.Stmt-F.{Case, Copy, Call as Calling, With, Read}
use Rattle.typed_tree.specs.declared.tree.Stmt.TheFolds.{fold-Stmt}
use Rattle.typed_tree.specs.Tests.{all_hold, whole_indexes}

-- with these types, it is so in a form if it is in each of its parts
module _ (types : List Form) where
  -- a whole value is a string
  abbrev pub is_text : Whole → Bool
  is_text (Text number characters) = true
  is_text (VariableOf access type_id cells defined) = is_string types type_id

  abbrev pub link_compares : Link-F Bool Bool Bool → Bool
  link_compares link = link.operand

  abbrev pub passed_compares : Passed-F Bool Bool Bool → Bool
  passed_compares (Value value fits) = value
  passed_compares (WholeOf type_id value indexes) = all_hold (whole_indexes value indexes.items)
  passed_compares (Reference type_id access indexes) = all_hold indexes.items

  abbrev pub expression_compares : Expr-F Bool Bool Bool → Bool
  expression_compares (Constant number value) = true
  expression_compares (Variable access indexes held defined) = all_hold indexes.items
  expression_compares (MonadicOf number operation operand) = operand.value
  expression_compares (Chain first rest) = first.value && all_hold rest.items
  expression_compares (Compare number relation left left_indexes right right_indexes) =
      (is_text left && all_hold (whole_indexes left left_indexes.items))
      && (is_text right && all_hold (whole_indexes right right_indexes.items))
  expression_compares (CallOf call actuals) = all_hold actuals.items
  expression_compares (Input number asks) = true
  expression_compares (Set number designators members) = all_hold members.items

  -- an expression
  abbrev pub compares_strings : Expr → Bool
  compares_strings = fold-Expr Bool Bool Bool expression_compares passed_compares link_compares

  -- an actual parameter
  abbrev pub passes_strings : Passed → Bool
  passes_strings = fold-Passed Bool Bool Bool expression_compares passed_compares link_compares

  -- the index expressions of an access, and a whole value with them
  abbrev pub all_compare : List Expr → Bool
  all_compare indexes = all_hold (map compares_strings indexes)

  abbrev pub value_compares : Whole → List Expr → Bool
  value_compares value indexes = all_hold (whole_indexes value (map compares_strings indexes))

  abbrev pub width_compares : Option Width → Bool
  width_compares None = true
  width_compares (Some width) = compares_strings width.value

  abbrev pub written_compares : Written → Bool
  written_compares (Ordinal value representation) = compares_strings value
  written_compares (String value indexes) = is_text value && value_compares value indexes.items

  abbrev pub parameter_compares : WriteParameter → Bool
  parameter_compares parameter = written_compares parameter.value && width_compares parameter.width

  abbrev pub record_compares : WithRecord → Bool
  record_compares one = all_compare one.indexes.items

  abbrev pub read_compares : ReadVariable → Bool
  read_compares one = all_compare one.indexes.items

  abbrev pub alternative_compares : Option (Box Bool Global) → Bool
  alternative_compares None = true
  alternative_compares (Some well) = well.value

  abbrev pub statement_compares : Stmt-F Bool → Bool
  statement_compares (Empty number) = true
  statement_compares (Assign assignment) =
      all_compare assignment.indexes.items && compares_strings assignment.value
  statement_compares (Copy copying) =
      all_compare copying.indexes.items && value_compares copying.value copying.value_indexes.items
  statement_compares (Write writing) = all_hold (map parameter_compares writing.parameters.items)
  statement_compares (Read reading) = all_hold (map read_compares reading.variables.items)
  statement_compares (Calling calling) = all_hold (map passes_strings calling.actuals.items)
  statement_compares (Compound number statements) = all_hold statements.items
  statement_compares (If number condition consequence alternative) =
      compares_strings condition && (consequence.value && alternative_compares alternative)
  statement_compares (While head body) = compares_strings head.condition && body.value
  statement_compares (Repeat head statements) = all_hold statements.items && compares_strings head.condition
  statement_compares (For head body) =
      compares_strings head.first.value && (compares_strings head.last.value && body.value)
  statement_compares (Case head arms) = compares_strings head.index && all_hold arms.items
  statement_compares (With head body) = all_hold (map record_compares head.records.items) && body.value

  -- a statement
  abbrev pub compares_in : Stmt → Bool
  compares_in = fold-Stmt Bool statement_compares
