-- The outlines of built expressions, one equation a form.
use denote.Ref.{Bor}
use Rattle.std.proofs.Common.{◌≡◌, ℕ, false, List, length, map, option_map, Box, Vec, sym, ap, ◌∙◌}
use Rattle.std.proofs.lemmas.List.{length-map}
use Rattle.std.proofs.lemmas.Bool.{eq-eqb}
use Rattle.std.specs.declared.alloc.Global.{Global}
use Rattle.place.specs.declared.Place.{Place}
use Rattle.syntax_tree.specs.declared.Name.{Name}
use Rattle.syntax_tree.specs.declared.Sign.{Sign}
use Rattle.syntax_tree.specs.declared.RelationalOperator.{RelationalOperator}
use Rattle.syntax_tree.specs.declared.Selector.{Selector}
use Rattle.syntax_tree.specs.declared.Designator.{Designator}
use Rattle.syntax_tree.specs.declared.Expr.{Expr}
use Rattle.syntax_tree.specs.declared.Link.{Link}
use Rattle.syntax_tree.specs.declared.Actual.{Actual}
use Rattle.syntax_tree.specs.declared.Expr.TheVariants as syntax
use Rattle.syntax_tree.specs.declared.Expr.TheOpen as layer
use Rattle.syntax_tree.specs.declared.Expr.TheViews.{roll-Expr, out-Link, out-Actual}
use Rattle.reading.specs.Lexemes.{identifier, character_string}
use Rattle.reading.specs.Outline as form
use Rattle.reading.specs.Outline.{has_items, only_if}
use Rattle.reading.specs.Trees.{expr_outline, link_outline, actual_outline, actual_of, selector_rows, values_of}
use Rattle.reading.proofs.Outlines.{expr_layer, expr_is, link_is, actual_is}
use Rattle.expression_parser.specs.Members.{members_look}

rolled : (e : Expr) (d : layer.Expr-F Expr Actual Link) → roll-Expr d ≡ e → expr_outline e ≡ expr_layer d
rolled e d is = ap expr_outline (sym is) ∙ expr_is d

pub built_number : (value : ℕ) (place : Place) → expr_outline (syntax.Number value place) ≡ form.number value place
built_number value place = rolled (syntax.Number value place) (layer.Number value place) (syntax.rolls-Number value place)

pub built_name : (name : Name) → expr_outline (syntax.Name name) ≡ form.named (identifier name)
built_name name = rolled (syntax.Name name) (layer.Name name) (syntax.rolls-Name name)

pub built_component : (name : Name) (selectors : Vec Selector Global) (indexes : Vec Expr Global)
    → expr_outline (syntax.Component name selectors indexes)
    ≡ form.component (identifier name) (selector_rows false selectors.items (map expr_outline indexes.items))
built_component name selectors indexes =
    rolled (syntax.Component name selectors indexes) (layer.Component name selectors indexes) (syntax.rolls-Component name selectors indexes)

pub built_string : (text : Bor (List ℕ)) (place : Place) → expr_outline (syntax.String text place) ≡ form.string (character_string text.now place)
built_string text place = rolled (syntax.String text place) (layer.String text place) (syntax.rolls-String text place)

pub built_call : (name : Name) (actuals : Vec Actual Global)
    → expr_outline (syntax.Call name actuals) ≡ form.call (identifier name) (map actual_outline actuals.items)
built_call name actuals = rolled (syntax.Call name actuals) (layer.Call name actuals) (syntax.rolls-Call name actuals)

pub built_parenthesized : (place : Place) (inner : Box Expr Global)
    → expr_outline (syntax.Parenthesized place inner) ≡ form.parenthesized place (expr_outline inner.value)
built_parenthesized place inner = rolled (syntax.Parenthesized place inner) (layer.Parenthesized place inner) (syntax.rolls-Parenthesized place inner)

pub built_set : (place : Place) (designators : Vec Designator Global) (members : Vec Expr Global) → values_of designators.items ≡ length members.items
    → expr_outline (syntax.Set place designators members) ≡ form.set place (members_look designators.items members.items)
built_set place designators members each =
    rolled (syntax.Set place designators members) (layer.Set place designators members) (syntax.rolls-Set place designators members)
    ∙ ap (λ test. only_if test (form.set place (members_look designators.items members.items)))
    (eq-eqb (values_of designators.items) (length (map expr_outline members.items)) (each ∙ sym (length-map members.items expr_outline)))

pub built_not : (place : Place) (operand : Box Expr Global)
    → expr_outline (syntax.Not place operand) ≡ form.negated place (expr_outline operand.value)
built_not place operand = rolled (syntax.Not place operand) (layer.Not place operand) (syntax.rolls-Not place operand)

pub built_signed : (sign : Sign) (place : Place) (term : Box Expr Global)
    → expr_outline (syntax.Signed sign place term) ≡ form.signed sign place (expr_outline term.value)
built_signed sign place term = rolled (syntax.Signed sign place term) (layer.Signed sign place term) (syntax.rolls-Signed sign place term)

pub built_chain : (first : Box Expr Global) (rest : Vec Link Global)
    → expr_outline (syntax.Chain first rest)
    ≡ only_if (has_items (map link_outline rest.items)) (form.chain (expr_outline first.value) (map link_outline rest.items))
built_chain first rest = rolled (syntax.Chain first rest) (layer.Chain first rest) (syntax.rolls-Chain first rest)

pub built_relation : (left : Box Expr Global) (operator : RelationalOperator) (place : Place) (right : Box Expr Global)
    → expr_outline (syntax.Relation left operator place right) ≡ form.relation (expr_outline left.value) operator place (expr_outline right.value)
built_relation left operator place right =
    rolled (syntax.Relation left operator place right) (layer.Relation left operator place right) (syntax.rolls-Relation left operator place right)

pub built_link : (l : Link) → link_outline l ≡ form.link (out-Link l).operator (out-Link l).place (expr_outline (out-Link l).operand)
built_link l = link_is l

pub built_actual : (a : Actual) → actual_outline a ≡ actual_of (expr_outline (out-Actual a).value) (option_map expr_outline (out-Actual a).width)
built_actual a = actual_is a

pub ruleset built_expressions =
    (built_number, built_name, built_component, built_string, built_call, built_parenthesized, built_not, built_signed, built_chain, built_relation)
