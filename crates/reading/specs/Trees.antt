-- The outline of a syntax tree: of each form by those of its parts, wherever these lie in memory.
-- This doesn't say how a form is spelled, nor when it may stand: see Outline.
use Rattle.std.specs.Prelude.{ℕ, ◌+◌, List, [], ◌∷◌, length, Bool, true, false, Option, Some, None, nat_eq, map}
use Rattle.std.specs.declared.alloc.Global.{Global}
use Rattle.std.specs.declared.boxed.Box.{Box}
use Rattle.syntax_tree.specs.Places.{arms_of, fields_of, members_of}
use Rattle.syntax_tree.specs.declared.Name.{Name}
use Rattle.syntax_tree.specs.declared.Selector.{Selector}
use Rattle.syntax_tree.specs.declared.Selector.TheVariants as select
use Rattle.syntax_tree.specs.declared.Designator.{Designator}
use Rattle.syntax_tree.specs.declared.Designator.TheVariants as designate
use Rattle.syntax_tree.specs.declared.SignAt.{SignAt}
use Rattle.syntax_tree.specs.declared.Constant.{Constant}
use Rattle.syntax_tree.specs.declared.ConstantValue.{ConstantValue}
use Rattle.syntax_tree.specs.declared.ConstantValue.TheVariants as value
use Rattle.syntax_tree.specs.declared.ConstantDefinition.{ConstantDefinition}
use Rattle.syntax_tree.specs.declared.Expr.{Expr}
use Rattle.syntax_tree.specs.declared.Link.{Link}
use Rattle.syntax_tree.specs.declared.Actual.{Actual}
use Rattle.syntax_tree.specs.declared.Expr.TheOpen.{Expr-F, Link-F, Actual-F}
use Rattle.syntax_tree.specs.declared.Expr.TheOpen as expr
use Rattle.syntax_tree.specs.declared.Expr.TheFolds.{fold-Expr, fold-Link, fold-Actual}
use Rattle.syntax_tree.specs.declared.Stmt.{Stmt}
use Rattle.syntax_tree.specs.declared.Stmt.TheOpen.{Stmt-F}
use Rattle.syntax_tree.specs.declared.Stmt.TheOpen as stmt
use Rattle.syntax_tree.specs.declared.Stmt.TheFolds.{fold-Stmt}
use Rattle.syntax_tree.specs.declared.RecordVariable.{RecordVariable}
use Rattle.syntax_tree.specs.declared.TypeDenoter.{TypeDenoter}
use Rattle.syntax_tree.specs.declared.TypeDenoter.TheOpen.{TypeDenoter-F}
use Rattle.syntax_tree.specs.declared.TypeDenoter.TheOpen as denoter
use Rattle.syntax_tree.specs.declared.TypeDenoter.TheFolds.{fold-TypeDenoter}
use Rattle.syntax_tree.specs.declared.TypeDefinition.{TypeDefinition}
use Rattle.syntax_tree.specs.declared.VariableGroup.{VariableGroup}
use Rattle.syntax_tree.specs.declared.Passing.{Passing}
use Rattle.syntax_tree.specs.declared.Passing.TheVariants as pass
use Rattle.syntax_tree.specs.declared.FormalGroup.{FormalGroup}
use Rattle.syntax_tree.specs.declared.Heading.{Heading}
use Rattle.syntax_tree.specs.declared.Heading.TheVariants.{Procedure, Function, Resumed}
use Rattle.syntax_tree.specs.declared.Block.{Block}
use Rattle.syntax_tree.specs.declared.Block.TheOpen.{Block-F, Routine-F}
use Rattle.syntax_tree.specs.declared.Block.TheFolds.{fold-Block, fold-Routine}
use Rattle.syntax_tree.specs.declared.Routine.{Routine}
use Rattle.syntax_tree.specs.declared.Program.{Program}
use Rattle.lexer.specs.declared.token.Kind.TheVariants as kind
use Rattle.lexer.specs.declared.token.Symbol.TheVariants as symbol
use Rattle.reading.specs.Lexemes.{Lexeme, Spelling, identifier, character_string, of_kind_at, symbol_at, sign_kind}
use Rattle.reading.specs.Notation.{Notation}
use Rattle.reading.specs.Outline as form
use Rattle.reading.specs.Outline.{Outline, only_if, has_items, kept, nothing}

abbrev pub name_outline : Name → Outline
name_outline name = kept (identifier name)

abbrev pub ahead : Outline → List Outline × Outline → List Outline × Outline
ahead one others = (one ∷ others.0, others.1)

-- selectors with the index expressions that belong to them, one for each that is an index, and what ends them; by
-- whether brackets are open before them
abbrev pub selector_rows : Bool → List Selector → List Outline → List Outline × Outline
selector_rows within [] [] = ([], form.closing within)
selector_rows within [] (i ∷ indexes) = ([], only_if false (form.row_then (i ∷ indexes) (form.closing within)))
selector_rows within (select.Field name ∷ selectors) indexes =
    ahead (form.field within (identifier name)) (selector_rows false selectors indexes)
selector_rows within (select.Index place joined ∷ selectors) [] =
    ahead (only_if false (kept (symbol_at symbol.Comma place))) (selector_rows true selectors [])
selector_rows within (select.Index place true ∷ selectors) (i ∷ indexes) =
    ahead (form.joined_index within place i) (selector_rows true selectors indexes)
selector_rows within (select.Index place false ∷ selectors) (i ∷ indexes) =
    ahead (form.index within place i) (selector_rows true selectors indexes)

abbrev pub actual_of : Outline → Option Outline → Outline
actual_of value None = form.actual value
actual_of value (Some width) = form.wide_actual value width

-- how many values the members of a set have, by their designators
abbrev pub values_of : List Designator → ℕ
values_of [] = 0
values_of (designate.Single ∷ designators) = 1 + values_of designators
values_of (designate.Range ∷ designators) = 2 + values_of designators

-- a member of a set, by its value or by its first and last
abbrev pub member_of : Outline → Option Outline → Outline
member_of value None = form.single value
member_of first (Some last) = form.range first last

abbrev pub member_outline : Outline × Option Outline → Outline
member_outline member = member_of member.0 member.1

-- one layer of an expression, its parts outlined
abbrev pub expr_step : Expr-F Outline Outline Outline → Outline
expr_step (expr.Number value place) = form.number value place
expr_step (expr.Name name) = form.named (identifier name)
expr_step (expr.Component name selectors indexes) =
    form.component (identifier name) (selector_rows false selectors.items indexes.items)
expr_step (expr.String text place) = form.string (character_string text.now place)
expr_step (expr.Call name actuals) = form.call (identifier name) actuals.items
expr_step (expr.Parenthesized place inner) = form.parenthesized place inner.value
expr_step (expr.Set place designators members) =
    only_if (nat_eq (values_of designators.items) (length members.items))
    (form.set place (map member_outline (members_of designators.items members.items)))
expr_step (expr.Not place operand) = form.negated place operand.value
expr_step (expr.Signed sign place term) = form.signed sign place term.value
expr_step (expr.Chain first rest) = only_if (has_items rest.items) (form.chain first.value rest.items)
expr_step (expr.Relation left operator place right) = form.relation left.value operator place right.value

abbrev pub link_step : Link-F Outline Outline Outline → Outline
link_step link = form.link link.operator link.place link.operand

abbrev pub actual_step : Actual-F Outline Outline Outline → Outline
actual_step actual = actual_of actual.value actual.width

abbrev pub expr_outline : Expr → Outline
expr_outline = fold-Expr Outline Outline Outline expr_step actual_step link_step

abbrev pub link_outline : Link → Outline
link_outline = fold-Link Outline Outline Outline expr_step actual_step link_step

abbrev pub actual_outline : Actual → Outline
actual_outline = fold-Actual Outline Outline Outline expr_step actual_step link_step

-- a constant, with a sign or none; no sign stands before a string (6.3)
abbrev pub sign_outline : Option SignAt → Outline
sign_outline None = nothing
sign_outline (Some s) = kept (of_kind_at (sign_kind s.sign) s.place)

abbrev pub value_lexeme : ConstantValue → Lexeme
value_lexeme (value.Number v place) = of_kind_at (kind.Number v) place
value_lexeme (value.Name name) = identifier name
value_lexeme (value.String text place) = character_string text.now place

abbrev pub may_stand : Option SignAt → ConstantValue → Bool
may_stand None v = true
may_stand (Some s) (value.String text place) = false
may_stand (Some s) v = true

abbrev pub constant_outline : Constant → Outline
constant_outline c = only_if (may_stand c.sign c.value) (form.constant (sign_outline c.sign) (value_lexeme c.value))

abbrev pub conditional_of : Outline → Outline → Option (Box Outline Global) → (Outline → Outline → Outline)
    → (Outline → Outline → Outline → Outline) → Outline
conditional_of condition consequence None alone wide = alone condition consequence
conditional_of condition consequence (Some alternative) alone wide = wide condition consequence alternative.value

-- an arm of a case, by its constants and its statement
abbrev pub arm_outline : List Constant × Outline → Outline
arm_outline arm = form.arm (map constant_outline arm.0) arm.1

-- a variable of a record, whose fields a with names
abbrev pub record_outline : RecordVariable → Outline
record_outline r =
    form.record_variable (identifier r.name) (selector_rows false r.selectors.items (map expr_outline r.indexes.items))

-- one layer of a statement, its parts outlined
abbrev pub stmt_step : Stmt-F Outline → Outline
stmt_step stmt.Empty = form.empty
stmt_step (stmt.Assign name selectors indexes becomes value) =
    form.assignment (identifier name) (selector_rows false selectors.items (map expr_outline indexes.items)) becomes
    (expr_outline value)
stmt_step (stmt.Call name actuals) = form.procedure_call (identifier name) (map actual_outline actuals.items)
stmt_step (stmt.Compound statements) = form.compound statements.items
stmt_step (stmt.If place condition consequence alternative) =
    conditional_of (expr_outline condition) consequence.value alternative (form.conditional place)
    (form.with_else place)
stmt_step (stmt.While place condition body) = form.while_loop place (expr_outline condition) body.value
stmt_step (stmt.Repeat place statements condition) =
    form.repeat_loop place statements.items (expr_outline condition)
stmt_step (stmt.For place variable first direction last body) =
    form.for_loop place (identifier variable) (expr_outline first) direction (expr_outline last) body.value
stmt_step (stmt.Case place index constants arms semicolon) =
    only_if (nat_eq (length constants.items) (length arms.items))
    (form.case place (expr_outline index) (map arm_outline (arms_of constants.items arms.items)) semicolon)
stmt_step (stmt.With place records body) = form.with_fields place (map record_outline records.items) body.value

abbrev pub stmt_outline : Stmt → Outline
stmt_outline = fold-Stmt Outline stmt_step

abbrev pub definition_outline : ConstantDefinition → Outline
definition_outline d = form.definition (identifier d.name) (constant_outline d.value)

-- fields declared together, by their names and their type
abbrev pub fields_outline : List Name × Outline → Outline
fields_outline fields = form.fields (map name_outline fields.0) fields.1

-- one layer of a type denoter, its parts outlined
abbrev pub denoter_step : TypeDenoter-F Outline → Outline
denoter_step (denoter.Name name) = form.named_type (identifier name)
denoter_step (denoter.Enumerated constants) = form.enumerated (map name_outline constants.items)
denoter_step (denoter.Subrange first between last) =
    form.subrange (constant_outline first) between (constant_outline last)
denoter_step (denoter.Array packed place indexes element) = form.array packed place indexes.items element.value
denoter_step (denoter.Record packed place names denoters semicolon) =
    only_if (nat_eq (length names.items) (length denoters.items))
    (form.record_type packed place (map fields_outline (fields_of names.items denoters.items)) semicolon)
denoter_step (denoter.Set packed place base) = form.set_type packed place base.value

abbrev pub denoter_outline : TypeDenoter → Outline
denoter_outline = fold-TypeDenoter Outline denoter_step

abbrev pub type_outline : TypeDefinition → Outline
type_outline d = form.type_definition (identifier d.name) (denoter_outline d.denoter)

abbrev pub group_outline : VariableGroup → Outline
group_outline g = form.group (map name_outline g.names.items) (denoter_outline g.denoter)

abbrev pub is_variable : Passing → Bool
is_variable pass.Value = false
is_variable pass.Variable = true

abbrev pub formal_outline : FormalGroup → Outline
formal_outline g = form.formal (is_variable g.by) (map name_outline g.names.items) (identifier g.type_name)

abbrev pub heading_outline : Heading → Outline
heading_outline (Procedure name formals) =
    form.procedure_heading (identifier name) (map formal_outline formals.items)
heading_outline (Function name formals result) =
    form.function_heading (identifier name) (map formal_outline formals.items) (identifier result)
heading_outline (Resumed name) = form.resumed_heading (identifier name)

-- `forward` may stand behind the heading (6.6.1, 6.6.2)
abbrev pub takes_directive : Heading → Bool
takes_directive (Procedure name formals) = true
takes_directive (Function name formals result) = true
takes_directive (Resumed name) = false

abbrev pub body_outline : Bool → Option Outline → Outline
body_outline directive None = form.directive directive
body_outline directive (Some block) = form.body block

abbrev pub routine_step : Routine-F Outline Outline → Outline
routine_step r = form.routine (heading_outline r.heading) (body_outline (takes_directive r.heading) r.block)

-- one layer of a block, its procedures and functions outlined
abbrev pub block_step : Block-F Outline Outline → Outline
block_step b =
    form.block (map definition_outline b.constants.items) (map type_outline b.types.items)
    (map group_outline b.variables.items) b.routines.items
    (form.statement_part (map stmt_outline b.statements.items) b.end)

abbrev pub block_outline : Block → Outline
block_outline = fold-Block Outline Outline block_step routine_step

abbrev pub routine_outline : Routine → Outline
routine_outline = fold-Routine Outline Outline block_step routine_step

abbrev pub program_outline : Program → Outline
program_outline p =
    form.program (identifier p.name) (map name_outline p.parameters.items) (block_outline p.block)

-- the tokens of a program, it written out, whether it is well formed, and how deep it nests
abbrev pub program_spelling : Program → Spelling
program_spelling p = (program_outline p).spelling

abbrev pub notation : Program → Notation
notation p = (program_outline p).notation

abbrev pub is_program : Program → Bool
is_program p = (program_outline p).well

abbrev pub nesting : Program → ℕ
nesting p = (program_outline p).depth
