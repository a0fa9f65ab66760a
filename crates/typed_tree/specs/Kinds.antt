-- Which operands are ordinals and which are sets (ISO 7185:1990, 6.7.1, 6.7.2): what the value of each expression is,
-- and whether each form has operands as it takes them. It says nothing of types.
use Rattle.std.specs.Prelude.{◌&&◌, Bool, true, false, List, [], ◌∷◌, Option, Some, None, if◌then◌else◌, map}
use Rattle.std.specs.List.{list_all}
use Rattle.std.specs.declared.alloc.Global.{Global}
use Rattle.std.specs.declared.boxed.Box.{Box}
use Rattle.typed_tree.specs.declared.tree.Block.{Block}
use Rattle.typed_tree.specs.declared.tree.Dyadic.{Dyadic}
use Rattle.typed_tree.specs.declared.tree.Dyadic.TheVariants as dyadic
use Rattle.typed_tree.specs.declared.tree.Scalar.{Scalar}
use Rattle.typed_tree.specs.declared.tree.Scalar.TheVariants as scalar
use Rattle.typed_tree.specs.declared.tree.Width.{Width}
use Rattle.typed_tree.specs.declared.tree.WithRecord.{WithRecord}
use Rattle.typed_tree.specs.declared.tree.ReadVariable.{ReadVariable}
use Rattle.typed_tree.specs.declared.tree.WriteParameter.{WriteParameter}
use Rattle.typed_tree.specs.declared.tree.Written.{Written}
use Rattle.typed_tree.specs.declared.tree.Written.TheVariants.{Ordinal, String}
use Rattle.typed_tree.specs.declared.tree.Whole.{Whole}
use Rattle.typed_tree.specs.declared.tree.Expr.{Expr}
use Rattle.typed_tree.specs.declared.tree.Passed.{Passed}
use Rattle.typed_tree.specs.declared.tree.Expr.TheOpen.{Expr-F, Passed-F, Link-F}
use Rattle.typed_tree.specs.declared.tree.Expr.TheOpen.Expr-F.{Constant, Variable, Monadic as MonadicOf, Chain}
use Rattle.typed_tree.specs.declared.tree.Expr.TheOpen.Expr-F.{Compare, Call as CallOf, Set, Input}
use Rattle.typed_tree.specs.declared.tree.Expr.TheOpen.Passed-F.{Value, Whole as WholeOf, Reference}
use Rattle.typed_tree.specs.declared.tree.Expr.TheFolds.{fold-Expr, fold-Passed}
use Rattle.typed_tree.specs.declared.tree.Stmt.{Stmt}
use Rattle.typed_tree.specs.declared.tree.Stmt.TheOpen.{Stmt-F}
use Rattle.typed_tree.specs.declared.tree.Stmt.TheOpen.Stmt-F.{Empty, Assign, Write, Compound, If, While, Repeat, For}
use Rattle.typed_tree.specs.declared.tree.Stmt.TheOpen.Stmt-F.{Case, Copy, Call as Calling, With, Read}
use Rattle.typed_tree.specs.declared.tree.Stmt.TheFolds.{fold-Stmt}
use Rattle.typed_tree.specs.Tests.{all_hold, whole_indexes}

-- both are the same
abbrev pub is_same : Scalar → Scalar → Bool
is_same scalar.Ordinal scalar.Ordinal = true
is_same scalar.Ordinal scalar.Set = false
is_same scalar.Set scalar.Ordinal = false
is_same scalar.Set scalar.Set = true

-- what an operation takes on the left and on the right, and what it gives
abbrev pub taken_left : Dyadic → Scalar
taken_left dyadic.Union = scalar.Set
taken_left dyadic.Difference = scalar.Set
taken_left dyadic.Intersection = scalar.Set
taken_left (dyadic.SetRelation relation) = scalar.Set
taken_left other = scalar.Ordinal

abbrev pub taken_right : Dyadic → Scalar
taken_right dyadic.In = scalar.Set
taken_right other = taken_left other

abbrev pub given : Dyadic → Scalar
given dyadic.Union = scalar.Set
given dyadic.Difference = scalar.Set
given dyadic.Intersection = scalar.Set
given other = scalar.Ordinal

-- what the value of an expression is; none where an operand in it is not as it is taken
abbrev pub Held : Type 0
Held = Option Scalar

-- the value is such a one
abbrev pub is_held : Scalar → Held → Bool
is_held wanted None = false
is_held wanted (Some held) = is_same wanted held

abbrev pub held_where : Bool → Scalar → Held
held_where test held = if test then Some held else None

abbrev pub are_ordinals : List Held → Bool
are_ordinals values = list_all (is_held scalar.Ordinal) values

-- what comes of an operator with its right operand behind a left one
abbrev pub link_held : Link-F Held Bool (Held → Held) → Held → Held
link_held link left =
    held_where (is_held (taken_left link.operation) left && is_held (taken_right link.operation) link.operand)
    (given link.operation)

abbrev pub links_held : Held → List (Held → Held) → Held
links_held left [] = left
links_held left (link ∷ links) = links_held (link left) links

abbrev pub passed_held : Passed-F Held Bool (Held → Held) → Bool
passed_held (Value value fits) = is_held fits.tests value
passed_held (WholeOf type_id value indexes) = are_ordinals (whole_indexes value indexes.items)
passed_held (Reference type_id access indexes) = are_ordinals indexes.items

abbrev pub expression_held : Expr-F Held Bool (Held → Held) → Held
expression_held (Constant number value) = Some scalar.Ordinal
expression_held (Variable access indexes held defined) = held_where (are_ordinals indexes.items) held
expression_held (MonadicOf number operation operand) =
    held_where (is_held scalar.Ordinal operand.value) scalar.Ordinal
expression_held (Chain first rest) = links_held first.value rest.items
expression_held (Compare number relation left left_indexes right right_indexes) =
    held_where
    (are_ordinals (whole_indexes left left_indexes.items) && are_ordinals (whole_indexes right right_indexes.items))
    scalar.Ordinal
expression_held (CallOf call actuals) = held_where (all_hold actuals.items) scalar.Ordinal
expression_held (Input number asks) = Some scalar.Ordinal
expression_held (Set number designators members) = held_where (are_ordinals members.items) scalar.Set

-- an expression
abbrev pub held_by : Expr → Held
held_by = fold-Expr Held Bool (Held → Held) expression_held passed_held link_held

-- an actual parameter is as it is taken
abbrev pub is_held_passed : Passed → Bool
is_held_passed = fold-Passed Held Bool (Held → Held) expression_held passed_held link_held

-- an expression is an ordinal, and index expressions are
abbrev pub is_ordinal_expr : Expr → Bool
is_ordinal_expr e = is_held scalar.Ordinal (held_by e)

abbrev pub are_ordinal_indexes : List Expr → Bool
are_ordinal_indexes indexes = are_ordinals (map held_by indexes)

abbrev pub is_held_value : Whole → List Expr → Bool
is_held_value value indexes = are_ordinals (whole_indexes value (map held_by indexes))

abbrev pub is_held_width : Option Width → Bool
is_held_width None = true
is_held_width (Some width) = is_ordinal_expr width.value

abbrev pub is_held_written : Written → Bool
is_held_written (Ordinal value representation) = is_ordinal_expr value
is_held_written (String value indexes) = is_held_value value indexes.items

abbrev pub is_held_parameter : WriteParameter → Bool
is_held_parameter parameter = is_held_written parameter.value && is_held_width parameter.width

abbrev pub is_held_record : WithRecord → Bool
is_held_record one = are_ordinal_indexes one.indexes.items

abbrev pub is_held_read : ReadVariable → Bool
is_held_read one = are_ordinal_indexes one.indexes.items

abbrev pub alternative_held : Option (Box Bool Global) → Bool
alternative_held None = true
alternative_held (Some held) = held.value

abbrev pub statement_held : Stmt-F Bool → Bool
statement_held (Empty number) = true
statement_held (Assign assignment) =
    are_ordinal_indexes assignment.indexes.items && is_held assignment.fits.tests (held_by assignment.value)
statement_held (Copy copying) =
    are_ordinal_indexes copying.indexes.items && is_held_value copying.value copying.value_indexes.items
statement_held (Write writing) = all_hold (map is_held_parameter writing.parameters.items)
statement_held (Read reading) = all_hold (map is_held_read reading.variables.items)
statement_held (Calling calling) = all_hold (map is_held_passed calling.actuals.items)
statement_held (Compound number statements) = all_hold statements.items
statement_held (If number condition consequence alternative) =
    is_ordinal_expr condition && (consequence.value && alternative_held alternative)
statement_held (While head body) = is_ordinal_expr head.condition && body.value
statement_held (Repeat head statements) = all_hold statements.items && is_ordinal_expr head.condition
statement_held (For head body) =
    is_ordinal_expr head.first.value && (is_ordinal_expr head.last.value && body.value)
statement_held (Case head arms) = is_ordinal_expr head.index && all_hold arms.items
statement_held (With head body) = all_hold (map is_held_record head.records.items) && body.value

-- in a statement each operand is as it is taken
abbrev pub is_held_stmt : Stmt → Bool
is_held_stmt = fold-Stmt Bool statement_held

-- in each of these blocks
abbrev pub are_held : List Block → Bool
are_held blocks = list_all (λ block. is_held_stmt block.body) blocks
