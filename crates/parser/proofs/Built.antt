-- The outlines of built statements, one equation a form.
use Rattle.std.proofs.Common.{◌≡◌, Bool, false, length, map, Some, None, Box, Vec, sym, ap, ◌∙◌}
use Rattle.std.proofs.lemmas.Bool.{eq-eqb}
use Rattle.std.proofs.lemmas.List.{length-map}
use Rattle.std.specs.declared.alloc.Global.{Global}
use Rattle.place.specs.declared.Place.{Place}
use Rattle.syntax_tree.specs.declared.Actual.{Actual}
use Rattle.syntax_tree.specs.declared.Constant.{Constant}
use Rattle.syntax_tree.specs.declared.Direction.{Direction}
use Rattle.syntax_tree.specs.declared.Expr.{Expr}
use Rattle.syntax_tree.specs.declared.Name.{Name}
use Rattle.syntax_tree.specs.declared.RecordVariable.{RecordVariable}
use Rattle.syntax_tree.specs.declared.Selector.{Selector}
use Rattle.syntax_tree.specs.declared.Stmt.{Stmt}
use Rattle.syntax_tree.specs.declared.Stmt.TheOpen as layer
use Rattle.syntax_tree.specs.declared.Stmt.TheVariants as syntax
use Rattle.syntax_tree.specs.declared.Stmt.TheViews.{roll-Stmt}
use Rattle.reading.specs.Lexemes.{identifier}
use Rattle.reading.specs.Outline as form
use Rattle.reading.specs.Outline.{only_if}
use Rattle.reading.specs.Trees.{actual_outline, expr_outline, record_outline, selector_rows, stmt_outline}
use Rattle.reading.proofs.Outlines.{stmt_is, stmt_layer}
use Rattle.parser.specs.Built.{arms_outlines}

rolled : (s : Stmt) (d : layer.Stmt-F Stmt) → roll-Stmt d ≡ s → stmt_outline s ≡ stmt_layer d
rolled s d is = ap stmt_outline (sym is) ∙ stmt_is d

pub built_empty : stmt_outline syntax.Empty ≡ form.empty
built_empty = rolled syntax.Empty layer.Empty syntax.rolls-Empty

pub built_assignment : (name : Name) (selectors : Vec Selector Global) (indexes : Vec Expr Global) (becomes : Place) (value : Expr)
    → stmt_outline (syntax.Assign name selectors indexes becomes value)
    ≡ form.assignment (identifier name) (selector_rows false selectors.items (map expr_outline indexes.items)) becomes (expr_outline value)
built_assignment name selectors indexes becomes value =
    rolled (syntax.Assign name selectors indexes becomes value) (layer.Assign name selectors indexes becomes value)
    (syntax.rolls-Assign name selectors indexes becomes value)

pub built_call : (name : Name) (actuals : Vec Actual Global)
    → stmt_outline (syntax.Call name actuals) ≡ form.procedure_call (identifier name) (map actual_outline actuals.items)
built_call name actuals = rolled (syntax.Call name actuals) (layer.Call name actuals) (syntax.rolls-Call name actuals)

pub built_compound : (statements : Vec Stmt Global) → stmt_outline (syntax.Compound statements) ≡ form.compound (map stmt_outline statements.items)
built_compound statements = rolled (syntax.Compound statements) (layer.Compound statements) (syntax.rolls-Compound statements)

pub built_if : (place : Place) (condition : Expr) (consequence : Box Stmt Global)
    → stmt_outline (syntax.If place condition consequence None) ≡ form.conditional place (expr_outline condition) (stmt_outline consequence.value)
built_if place condition consequence =
    rolled (syntax.If place condition consequence None) (layer.If place condition consequence None) (syntax.rolls-If place condition consequence None)

pub built_else : (place : Place) (condition : Expr) (consequence alternative : Box Stmt Global)
    → stmt_outline (syntax.If place condition consequence (Some alternative))
    ≡ form.with_else place (expr_outline condition) (stmt_outline consequence.value) (stmt_outline alternative.value)
built_else place condition consequence alternative =
    rolled (syntax.If place condition consequence (Some alternative)) (layer.If place condition consequence (Some alternative))
    (syntax.rolls-If place condition consequence (Some alternative))

pub built_while : (place : Place) (condition : Expr) (body : Box Stmt Global)
    → stmt_outline (syntax.While place condition body) ≡ form.while_loop place (expr_outline condition) (stmt_outline body.value)
built_while place condition body =
    rolled (syntax.While place condition body) (layer.While place condition body) (syntax.rolls-While place condition body)

pub built_repeat : (place : Place) (statements : Vec Stmt Global) (condition : Expr)
    → stmt_outline (syntax.Repeat place statements condition) ≡ form.repeat_loop place (map stmt_outline statements.items) (expr_outline condition)
built_repeat place statements condition =
    rolled (syntax.Repeat place statements condition) (layer.Repeat place statements condition) (syntax.rolls-Repeat place statements condition)

pub built_for : (place : Place) (variable : Name) (first : Expr) (direction : Direction) (last : Expr) (body : Box Stmt Global)
    → stmt_outline (syntax.For place variable first direction last body)
    ≡ form.for_loop place (identifier variable) (expr_outline first) direction (expr_outline last) (stmt_outline body.value)
built_for place variable first direction last body =
    rolled (syntax.For place variable first direction last body) (layer.For place variable first direction last body)
    (syntax.rolls-For place variable first direction last body)

pub built_with : (place : Place) (records : Vec RecordVariable Global) (body : Box Stmt Global)
    → stmt_outline (syntax.With place records body) ≡ form.with_fields place (map record_outline records.items) (stmt_outline body.value)
built_with place records body =
    rolled (syntax.With place records body) (layer.With place records body) (syntax.rolls-With place records body)

pub built_case : (place : Place) (index : Expr) (constants : Vec (Vec Constant Global) Global) (arms : Vec Stmt Global) (semicolon : Bool)
    → length constants.items ≡ length arms.items
    → stmt_outline (syntax.Case place index constants arms semicolon)
    ≡ form.case place (expr_outline index) (arms_outlines constants.items arms.items) semicolon
built_case place index constants arms semicolon each =
    rolled (syntax.Case place index constants arms semicolon) (layer.Case place index constants arms semicolon)
    (syntax.rolls-Case place index constants arms semicolon)
    ∙ ap (λ test. only_if test (form.case place (expr_outline index) (arms_outlines constants.items arms.items) semicolon))
    (eq-eqb (length constants.items) (length (map stmt_outline arms.items)) (each ∙ sym (length-map arms.items stmt_outline)))

pub ruleset built_statements =
    (built_empty, built_assignment, built_call, built_compound, built_if, built_else, built_while, built_repeat, built_for, built_case, built_with)
