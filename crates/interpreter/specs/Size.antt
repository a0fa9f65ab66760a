-- How much a run has still to do before a turn is used or it ends: the measure by which the work in a turn ends.
-- The size of a piece of work is how many others are made in doing it, at most, before a turn is used: so what is done
-- in a turn, as a loop's body or an activation, isn't counted where the turn begins.
use Rattle.std.specs.Prelude.{ℕ, ◌≡◌, ◌+◌, ◌<◌, ◌≤◌, ◌⊎◌, List, Option, Some, None, Result, Ok, OnOk, length, map}
use Rattle.std.specs.Prelude.{sum_by}
use Rattle.std.specs.declared.alloc.AllocError.{AllocError}
use Rattle.std.specs.declared.alloc.Global.{Global}
use Rattle.std.specs.declared.boxed.Box.{Box}
use Rattle.typed_tree.specs.declared.tree.Assignment.{Assignment}
use Rattle.typed_tree.specs.declared.tree.Copying.{Copying}
use Rattle.typed_tree.specs.declared.tree.Designator.{Designator}
use Rattle.typed_tree.specs.declared.tree.ProcedureCall.{ProcedureCall}
use Rattle.typed_tree.specs.declared.tree.ReadVariable.{ReadVariable}
use Rattle.typed_tree.specs.declared.tree.Width.{Width}
use Rattle.typed_tree.specs.declared.tree.WithRecord.{WithRecord}
use Rattle.typed_tree.specs.declared.tree.WriteParameter.{WriteParameter}
use Rattle.typed_tree.specs.declared.tree.Written.{Written}
use Rattle.typed_tree.specs.declared.tree.Written.TheVariants.{Ordinal, String}
use Rattle.typed_tree.specs.declared.tree.Selector.{Selector}
use Rattle.typed_tree.specs.declared.tree.Whole.{Whole}
use Rattle.typed_tree.specs.declared.tree.Whole.TheVariants.{Text, Variable as VariableOf}
use Rattle.typed_tree.specs.declared.tree.Expr.{Expr}
use Rattle.typed_tree.specs.declared.tree.Link.{Link}
use Rattle.typed_tree.specs.declared.tree.Passed.{Passed}
use Rattle.typed_tree.specs.declared.tree.Expr.TheOpen.{Expr-F, Passed-F, Link-F}
use Rattle.typed_tree.specs.declared.tree.Expr.TheOpen.Expr-F.{Constant, Variable, Monadic, Chain, Compare}
use Rattle.typed_tree.specs.declared.tree.Expr.TheOpen.Expr-F.{Call as CallOf, Input, Set}
use Rattle.typed_tree.specs.declared.tree.Expr.TheOpen.Passed-F.{Value as PassedValue, Whole as PassedWhole, Reference}
use Rattle.typed_tree.specs.declared.tree.Expr.TheFolds.{fold-Expr, fold-Passed, fold-Link}
use Rattle.typed_tree.specs.declared.tree.Stmt.{Stmt}
use Rattle.typed_tree.specs.declared.tree.Stmt.TheOpen.{Stmt-F}
use Rattle.typed_tree.specs.declared.tree.Stmt.TheOpen.Stmt-F.{Empty, Assign, Write, Compound, If, While, Repeat, For}
use Rattle.typed_tree.specs.declared.tree.Stmt.TheOpen.Stmt-F.{Case, Copy, Call as Calling, Read, With}
use Rattle.typed_tree.specs.declared.tree.Stmt.TheFolds.{fold-Stmt}
use Rattle.meaning.specs.declared.outcome.Ending.{Ending}
use Rattle.interpreter.specs.declared.interpreter.Run.{Run}
use Rattle.interpreter_state.specs.declared.work.Caller.{Caller}
use Rattle.interpreter_state.specs.declared.work.Caller.TheVariants as caller
use Rattle.interpreter_state.specs.declared.work.Work.{Work}
use Rattle.interpreter_state.specs.declared.work.Work.TheVariants as work

-- a row of pieces, with so many made for each of them
abbrev pub row_size : ℕ → List ℕ → ℕ
row_size each sizes = sum_by (λ size. each + size) sizes

-- the selectors of an access: one is made for each of them, and two more for an index
abbrev pub access_size : List Selector → List ℕ → ℕ
access_size selectors indexes = length selectors + row_size 2 indexes

abbrev pub whole_size : Whole → List ℕ → ℕ
whole_size (Text n characters) indexes = 0
whole_size (VariableOf a type_id cells defined) indexes = 2 + access_size a.selectors.items indexes

-- the designators of a set constructor: two are made for each of them, and one for each expression
abbrev pub gather_size : List Designator → List ℕ → ℕ
gather_size designators members = length designators + length designators + row_size 1 members

abbrev pub call_size : List ℕ → ℕ
call_size actuals = 2 + row_size 1 actuals

abbrev pub link_size : Link-F ℕ ℕ ℕ → ℕ
link_size l = l.operand

abbrev pub passed_size : Passed-F ℕ ℕ ℕ → ℕ
passed_size (PassedValue value fits) = 2 + value
passed_size (PassedWhole type_id value indexes) = 1 + whole_size value indexes.items
passed_size (Reference type_id a indexes) = 1 + access_size a.selectors.items indexes.items

abbrev pub expression_size : Expr-F ℕ ℕ ℕ → ℕ
expression_size (Constant n v) = 0
expression_size (Variable a indexes holds d) = 2 + access_size a.selectors.items indexes.items
expression_size (Monadic n operation operand) = 2 + operand.value
expression_size (Chain first rest) = 2 + first.value + row_size 3 rest.items
expression_size (Compare n relation left left_indexes right right_indexes) =
    4 + whole_size left left_indexes.items + whole_size right right_indexes.items
expression_size (Input n asks) = 0
expression_size (Set n designators members) = 1 + gather_size designators.items members.items
expression_size (CallOf call actuals) = call_size actuals.items

abbrev pub size_of_expression : Expr → ℕ
size_of_expression = fold-Expr ℕ ℕ ℕ expression_size passed_size link_size

abbrev pub size_of_passed : Passed → ℕ
size_of_passed = fold-Passed ℕ ℕ ℕ expression_size passed_size link_size

abbrev pub size_of_link : Link → ℕ
size_of_link = fold-Link ℕ ℕ ℕ expression_size passed_size link_size

abbrev pub size_of_selectors : List Selector → List Expr → ℕ
size_of_selectors selectors indexes = access_size selectors (map size_of_expression indexes)

abbrev pub size_of_whole : Whole → List Expr → ℕ
size_of_whole value indexes = whole_size value (map size_of_expression indexes)

abbrev pub size_of_width : Option Width → ℕ
size_of_width None = 0
size_of_width (Some width) = 2 + size_of_expression width.value

abbrev pub size_of_written : Written → ℕ
size_of_written (Ordinal value representation) = 3 + size_of_expression value
size_of_written (String value indexes) = 2 + size_of_whole value indexes.items

abbrev pub size_of_parameter : WriteParameter → ℕ
size_of_parameter parameter = size_of_written parameter.value + size_of_width parameter.width

abbrev pub size_of_read : ReadVariable → ℕ
size_of_read one = size_of_selectors one.access.selectors.items one.indexes.items

abbrev pub size_of_assignment : Assignment → ℕ
size_of_assignment assignment =
    3 + size_of_selectors assignment.target.selectors.items assignment.indexes.items
    + size_of_expression assignment.value

abbrev pub size_of_copying : Copying → ℕ
size_of_copying copying =
    3 + size_of_selectors copying.target.selectors.items copying.indexes.items
    + size_of_whole copying.value copying.value_indexes.items

abbrev pub size_of_procedure : ProcedureCall → ℕ
size_of_procedure procedure = 1 + call_size (map size_of_passed procedure.actuals.items)

abbrev pub size_of_gather : List Designator → List Expr → ℕ
size_of_gather designators members = gather_size designators (map size_of_expression members)

-- the records of a with, and its statement
abbrev pub size_of_record : WithRecord → ℕ
size_of_record one = size_of_selectors one.access.selectors.items one.indexes.items

abbrev pub with_size : List ℕ → ℕ → ℕ
with_size records body = 1 + body + row_size 4 records

-- the statement behind `else`, or nothing
abbrev pub alternative_size : Option (Box ℕ Global) → ℕ
alternative_size None = 0
alternative_size (Some size) = size.value

abbrev pub statement_size : Stmt-F ℕ → ℕ
statement_size (Empty n) = 0
statement_size (Assign assignment) = size_of_assignment assignment
statement_size (Copy copying) = size_of_copying copying
statement_size (Write writing) = row_size 1 (map size_of_parameter writing.parameters.items)
statement_size (Read reading) = row_size 3 (map size_of_read reading.variables.items)
statement_size (Calling procedure) = size_of_procedure procedure
statement_size (Compound n statements) = row_size 2 statements.items
statement_size (If n condition consequence alternative) =
    3 + size_of_expression condition + consequence.value + alternative_size alternative
statement_size (While head body) = 2 + size_of_expression head.condition
statement_size (Repeat head statements) = 0
statement_size (For head body) = 3 + size_of_expression head.first.value + size_of_expression head.last.value
statement_size (Case head arms) = 2 + size_of_expression head.index + row_size 1 arms.items
statement_size (With head body) = with_size (map size_of_record head.records.items) body.value

abbrev pub size_of_statement : Stmt → ℕ
size_of_statement = fold-Stmt ℕ statement_size

abbrev pub size_of_alternative : Option (Box Stmt Global) → ℕ
size_of_alternative None = 0
size_of_alternative (Some statement) = size_of_statement statement.value

abbrev pub size_of_with : List WithRecord → Stmt → ℕ
size_of_with records body = with_size (map size_of_record records) (size_of_statement body)

abbrev pub size_of : Work → ℕ
size_of (work.Statements statements) = row_size 2 (map size_of_statement statements.now)
size_of (work.Statement statement) = size_of_statement statement.now
size_of (work.Choose consequence alternative) =
    1 + size_of_statement consequence.now.value + size_of_alternative alternative.now
size_of (work.Case head arms) = row_size 1 (map size_of_statement arms.now.items)
size_of (work.Parameters parameters ends_line) = row_size 1 (map size_of_parameter parameters.now)
size_of (work.Variables variables line) = row_size 3 (map size_of_read variables.now)
size_of (work.Width width representation) = size_of_width width.now
size_of (work.Select selectors indexes) = size_of_selectors selectors.now indexes.now
size_of (work.Whole value indexes) = size_of_whole value.now indexes.now
size_of (work.Value expression) = size_of_expression expression.now
size_of (work.Links links) = row_size 3 (map size_of_link links.now)
size_of (work.RightSide number relation right indexes) = 2 + size_of_whole right.now indexes.now
size_of (work.Pass actuals) = row_size 1 (map size_of_passed actuals.now)
size_of (work.Gather designators members) = size_of_gather designators.now members.now
size_of (work.With records body) = size_of_with records.now body.now.value
size_of (work.Within records body) = 2 + size_of_with records.now body.now.value
size_of other = 0

-- pieces of work, each counted with those that it makes
abbrev pub works_size : List Work → ℕ
works_size works = sum_by (λ piece. 1 + size_of piece) works

-- what waits, counted with the work that is left in it
abbrev pub caller_size : Caller → ℕ
caller_size (caller.Call activation pending) = 1 + works_size pending.items
caller_size (caller.With pending) = 1 + works_size pending.items
caller_size (caller.For pending) = 1 + works_size pending.items

-- all that a run has still to do before a turn is used
abbrev pub pending_size : Run → ℕ
pending_size run = works_size run.pending.items + sum_by caller_size run.callers.items

-- a step used a turn, or behind it there is at most so much more to do than before it
abbrev pub Adds : ℕ → Run → Result (Option Ending) AllocError → Run → Type 0
Adds more old result new = OnOk result ((new.turns < old.turns)
    ⊎ ((new.turns ≡ old.turns) × (pending_size new ≤ pending_size old + more)))

-- a step does a piece of work: so there is less to do behind it than when the piece was pending, or a turn was used
abbrev pub Lightens : Work → Run → Result (Option Ending) AllocError → Run → Type 0
Lightens work = Adds (size_of work)

-- a step after which the run goes on used a turn, or behind it there is less to do
abbrev pub Shrinks : Run → Result (Option Ending) AllocError → Run → Type 0
Shrinks old result new = result ≡ Ok None →
    (new.turns < old.turns) ⊎ ((new.turns ≡ old.turns) × (pending_size new < pending_size old))
