-- The records of with statements (ISO 7185:1990, 6.8.3.10) that stand round each form, by slot; and whether each access
-- that begins at one begins at one that is there. It says nothing of what is accessed in a run.
use Rattle.std.specs.Prelude.{ℕ, ◌&&◌, ◌++◌, Bool, true, false, List, [], ◌∷◌, Option, Some, None, map, nat_eq}
use Rattle.std.specs.Prelude.{length, slice_get}
use Rattle.std.specs.Cmp.Lexicographic.{pointwise}
use Rattle.std.specs.List.{list_all}
use Rattle.std.specs.declared.alloc.Global.{Global}
use Rattle.std.specs.declared.boxed.Box.{Box}
use Rattle.typed_tree.specs.declared.tree.Access.{Access}
use Rattle.typed_tree.specs.declared.tree.Block.{Block}
use Rattle.typed_tree.specs.declared.tree.PathStep.{PathStep}
use Rattle.typed_tree.specs.declared.tree.PathStep.TheVariants as path
use Rattle.typed_tree.specs.declared.tree.Width.{Width}
use Rattle.typed_tree.specs.declared.tree.WithRecord.{WithRecord}
use Rattle.typed_tree.specs.declared.tree.ReadVariable.{ReadVariable}
use Rattle.typed_tree.specs.declared.tree.WriteParameter.{WriteParameter}
use Rattle.typed_tree.specs.declared.tree.Written.{Written}
use Rattle.typed_tree.specs.declared.tree.Written.TheVariants.{Ordinal, String}
use Rattle.typed_tree.specs.declared.tree.Whole.{Whole}
use Rattle.typed_tree.specs.declared.tree.Whole.TheVariants.{Text, Variable as VariableOf}
use Rattle.typed_tree.specs.declared.tree.Expr.{Expr}
use Rattle.typed_tree.specs.declared.tree.Passed.{Passed}
use Rattle.typed_tree.specs.declared.tree.Expr.TheOpen.{Expr-F, Passed-F, Link-F}
use Rattle.typed_tree.specs.declared.tree.Expr.TheOpen.Expr-F.{Constant, Variable, Monadic as MonadicOf, Chain}
use Rattle.typed_tree.specs.declared.tree.Expr.TheOpen.Expr-F.{Compare, Call as CallOf, Set, Input}
use Rattle.typed_tree.specs.declared.tree.Expr.TheOpen.Passed-F.{Value, Whole as WholeOf, Reference}
use Rattle.typed_tree.specs.declared.tree.Expr.TheFolds.{fold-Expr, fold-Passed}
use Rattle.typed_tree.specs.declared.tree.Stmt.{Stmt}
use Rattle.typed_tree.specs.declared.tree.Stmt.TheOpen.{Stmt-F}
use Rattle.typed_tree.specs.declared.tree.Stmt.TheOpen.Stmt-F.{Empty, Assign, Write, Compound, If, While, Repeat, For}
use Rattle.typed_tree.specs.declared.tree.Stmt.TheOpen.Stmt-F.{Case, Copy, Call as Calling, With, Read}
use Rattle.typed_tree.specs.declared.tree.Stmt.TheFolds.{fold-Stmt}
use Rattle.typed_tree.specs.Accesses.{Origin, AtVariable, AtRecord, origin_of, step_of, steps_of}
use Rattle.typed_tree.specs.Tests.{of_one}

-- a record that is open: the root of the variable in which it lies, and the way on which it lies there
pub record OpenRecord : Type 0 where
  pub root : ℕ
  pub steps : List PathStep

abbrev pub is_same_step : PathStep → PathStep → Bool
is_same_step path.Element path.Element = true
is_same_step path.Element (path.Field other) = false
is_same_step (path.Field position) path.Element = false
is_same_step (path.Field position) (path.Field other) = nat_eq position other

abbrev pub is_open_as : ℕ → List PathStep → OpenRecord → Bool
is_open_as root steps opened = nat_eq root opened.root && pointwise is_same_step steps opened.steps

-- an access begins at a variable, or at a record that is open in its slot
abbrev pub is_there : List OpenRecord → Origin → Bool
is_there records (AtVariable root) = true
is_there records (AtRecord root slot steps) = of_one (is_open_as root steps) (slice_get records slot)

-- the record that an access opens
abbrev pub opened_by : Access → OpenRecord
opened_by access = record {
  root = access.root;
  steps = steps_of (origin_of access) ++ map step_of access.selectors.items;
}

-- whether the accesses of a form begin at what is there, among records that are open
abbrev pub Begin : Type 0
Begin = List OpenRecord → Bool

abbrev pub all_begin : List Begin → Begin
all_begin forms records = list_all (λ form. form records) forms

abbrev pub access_begins : Access → List Begin → Begin
access_begins access indexes records = all_begin indexes records && is_there records (origin_of access)

abbrev pub whole_begins : Whole → List Begin → Begin
whole_begins (Text number characters) indexes records = true
whole_begins (VariableOf access type_id cells defined) indexes records = access_begins access indexes records

abbrev pub link_begins : Link-F Begin Begin Begin → Begin
link_begins link = link.operand

abbrev pub passed_begins : Passed-F Begin Begin Begin → Begin
passed_begins (Value value fits) = value
passed_begins (WholeOf type_id value indexes) = whole_begins value indexes.items
passed_begins (Reference type_id access indexes) = access_begins access indexes.items

abbrev pub expression_begins : Expr-F Begin Begin Begin → Begin
expression_begins (Constant number value) records = true
expression_begins (Variable access indexes held defined) records = access_begins access indexes.items records
expression_begins (MonadicOf number operation operand) records = operand.value records
expression_begins (Chain first rest) records = first.value records && all_begin rest.items records
expression_begins (Compare number relation left left_indexes right right_indexes) records =
    whole_begins left left_indexes.items records && whole_begins right right_indexes.items records
expression_begins (CallOf call actuals) records = all_begin actuals.items records
expression_begins (Input number asks) records = true
expression_begins (Set number designators members) records = all_begin members.items records

-- an expression
abbrev pub begins : Expr → Begin
begins = fold-Expr Begin Begin Begin expression_begins passed_begins link_begins

-- an actual parameter
abbrev pub passed_begin : Passed → Begin
passed_begin = fold-Passed Begin Begin Begin expression_begins passed_begins link_begins

-- the access of what stands with these index expressions, and a whole value with them
abbrev pub accesses_begin : Access → List Expr → Begin
accesses_begin access indexes = access_begins access (map begins indexes)

abbrev pub value_begins : Whole → List Expr → Begin
value_begins value indexes = whole_begins value (map begins indexes)

abbrev pub width_begins : Option Width → Begin
width_begins None records = true
width_begins (Some width) records = begins width.value records

abbrev pub written_begins : Written → Begin
written_begins (Ordinal value representation) = begins value
written_begins (String value indexes) = value_begins value indexes.items

abbrev pub parameter_begins : WriteParameter → Begin
parameter_begins parameter records = written_begins parameter.value records && width_begins parameter.width records

abbrev pub read_begins : ReadVariable → Begin
read_begins one = accesses_begin one.access one.indexes.items

abbrev pub alternative_begins : Option (Box Begin Global) → Begin
alternative_begins None records = true
alternative_begins (Some statement) records = statement.value records

-- each record of a with is open for those behind it, and all of them are for its statement
abbrev pub with_begins : List WithRecord → Begin → Begin
with_begins [] body records = body records
with_begins (one ∷ others) body records =
    accesses_begin one.access one.indexes.items records
    && with_begins others body (records ++ opened_by one.access ∷ [])

abbrev pub statement_begins : Stmt-F Begin → Begin
statement_begins (Empty number) records = true
statement_begins (Assign assignment) records =
    accesses_begin assignment.target assignment.indexes.items records && begins assignment.value records
statement_begins (Copy copying) records =
    accesses_begin copying.target copying.indexes.items records
    && value_begins copying.value copying.value_indexes.items records
statement_begins (Write writing) records = all_begin (map parameter_begins writing.parameters.items) records
statement_begins (Read reading) records = all_begin (map read_begins reading.variables.items) records
statement_begins (Calling calling) records = all_begin (map passed_begin calling.actuals.items) records
statement_begins (Compound number statements) records = all_begin statements.items records
statement_begins (If number condition consequence alternative) records =
    begins condition records && (consequence.value records && alternative_begins alternative records)
statement_begins (While head body) records = begins head.condition records && body.value records
statement_begins (Repeat head statements) records =
    all_begin statements.items records && begins head.condition records
statement_begins (For head body) records =
    begins head.first.value records && (begins head.last.value records && body.value records)
statement_begins (Case head arms) records = begins head.index records && all_begin arms.items records
statement_begins (With head body) records =
    nat_eq head.first_slot (length records) && with_begins head.records.items body.value records

-- a statement
abbrev pub begins_in : Stmt → Begin
begins_in = fold-Stmt Begin statement_begins

-- in the statement of each of these blocks, where no record is open yet, each access begins at what is there
abbrev pub are_there : List Block → Bool
are_there blocks = list_all (λ block. begins_in block.body []) blocks
