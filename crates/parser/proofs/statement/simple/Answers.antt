use Rattle.std.proofs.Common.{rules, ◌≡◌, true, false, map, Ok, Err, sym, ap, ◌∙◌}
use Rattle.reading.specs.declared.refusal.Refusal.TheVariants.{NoProgram}
use Rattle.reading.specs.Lexemes.{identifier}
use Rattle.reading.specs.Outline.{has_items}
use Rattle.reading.specs.Statements as spec
use Rattle.reading.specs.Trees.{expr_outline}
use Rattle.expression_parser.specs.Built.{actuals_outlines, selectors_outlines}
use Rattle.expression_parser.proofs.Named.{empty_items, filled_items, has_rows, no_rows}
use Rattle.parser.proofs.Built.{built_call}
use Rattle.parser.proofs.Simple.{call_made, refused_behind}
use Rattle.parser.proofs.statement.simple.Goals as goal

pub returns-then-not-is_empty : goal.returns-then-not-is_empty
returns-then-not-is_empty c =
    let some : has_items c.in_ok-selectors.selectors.items ≡ true =
    filled_items c.in_ok-selectors.selectors c.is_empty.ensures c.if-not-is_empty.true in
    let stops : spec.simple c.args.levels c.args.cursor.now.rest.now ≡ Err (NoProgram, c.take_symbol.new.self.rest.now) =
    refused_behind c.args.levels c.args.cursor.now.rest.now c.expect_name.new.self.rest.now c.selectors.new.cursor.rest.now
    c.take_symbol.new.self.rest.now (identifier c.in_ok-name.name) c.in_ok-name.ensures
    (selectors_outlines (c.in_ok-selectors.selectors, c.in_ok-selectors.indexes)) c.in_ok-selectors.ensures c.in_default.ensures
    (has_rows false c.in_ok-selectors.selectors.items (map expr_outline c.in_ok-selectors.indexes.items) some) in
    search rules

pub returns : goal.returns
returns c =
    let none : has_items c.in_ok-selectors.selectors.items ≡ false = empty_items c.in_ok-selectors.selectors c.is_empty.ensures c.if-not-is_empty.false in
    call_made c.args.levels c.args.cursor.now.rest.now c.expect_name.new.self.rest.now c.selectors.new.cursor.rest.now
    c.take_symbol.new.self.rest.now (identifier c.in_ok-name.name) c.in_ok-name.ensures
    (selectors_outlines (c.in_ok-selectors.selectors, c.in_ok-selectors.indexes)) c.in_ok-selectors.ensures c.in_default.ensures
    (no_rows false c.in_ok-selectors.selectors.items (map expr_outline c.in_ok-selectors.indexes.items) none)
    (actuals_outlines c.in_ok-actuals.actuals) c.actuals.new.cursor.rest.now c.in_ok-actuals.ensures
    ∙ ap (λ s. Ok (s, c.actuals.new.cursor.rest.now)) (sym (built_call c.in_ok-name.name c.in_ok-actuals.actuals))
