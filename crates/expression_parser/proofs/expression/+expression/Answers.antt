use Rattle.std.proofs.Common.{rules, ◌≡◌, [], ◌∷◌, ◌++◌, map, Some, None, Ok, Err, true, false, sym, ap, subst, ◌∙◌}
use Rattle.memory.specs.Refused.{the_refusal}
use Rattle.lexer.specs.declared.token.Kind.TheVariants as kind
use Rattle.lexer.specs.declared.token.Symbol.TheVariants as symbol
use Rattle.reading.specs.declared.refusal.Refusal.TheVariants.{Memory}
use Rattle.reading.specs.Expressions as spec
use Rattle.reading.specs.Expressions.{expression_below, factor_below}
use Rattle.reading.specs.Lexemes.{identifier}
use Rattle.reading.specs.Reading.{separated}
use Rattle.reading.specs.Outline.{has_items}
use Rattle.reading.specs.Trees.{actual_outline, expr_outline}
use Rattle.reading.proofs.Uses.{actual_no_more, below_no_more, member_no_more}
use Rattle.token_cursor.specs.Cursor.{Makes}
use Rattle.token_cursor.proofs.Keeping.{followed_makes, not_put, was_put}
use Rattle.token_cursor.proofs.Turns.{list_ends, list_goes, parts_fewer, parts_stop}
use Rattle.expression_parser.specs.Built.{actuals_outlines, selectors_outlines}
use Rattle.expression_parser.specs.Levels as level_spec
use Rattle.expression_parser.specs.Selecting.{is_index, Selects}
use Rattle.expression_parser.proofs.Built.{built_call, built_component, built_link, built_name}
use Rattle.expression_parser.proofs.Chains.{link_fewer, links_end, links_go, links_stop}
use Rattle.expression_parser.proofs.Members.{was_member, no_member, members_go, members_fewer, members_end, members_stop}
use Rattle.expression_parser.proofs.Named.{alone_named, call_named, component_named, factor_named, empty_items, filled_items, has_mapped, has_rows, no_rows}
use Rattle.expression_parser.proofs.Parentheses.{parenthesized_is}
use Rattle.expression_parser.proofs.Selectors.{SelectorsSoFar, selectors_begin, selectors_end, selectors_fewer, selectors_go, selectors_stop}
use Rattle.expression_parser.proofs.expression.+expression.Goals as goal

-- ---- factors

pub factor-returns-in-Some-Identifier : goal.factor-returns-in-Some-Identifier
factor-returns-in-Some-Identifier t c =
    subst (λ o. Makes expr_outline o c.named.result c.named.new.cursor)
    (sym (factor_named c.args.levels c.args.cursor.now.rest.now c.take_number.new.self.rest.now c.take_string.new.self.rest.now
    c.in_default.ensures c.in_default-take_string.ensures (cc)))
    c.named.ensures

pub parenthesized-returns : goal.parenthesized-returns
parenthesized-returns t c =
    subst (λ o. Makes expr_outline o c.parenthesized.result c.followed_by-inner.new.self)
    (sym (parenthesized_is (expression_below c.args.levels) c.args.cursor.now.rest.now c.expect_symbol.new.self.rest.now c.in_ok-open.open
    c.in_ok-open.ensures))
    (c.parenthesized.ensures _ c.followed_by-inner.new.self
    (followed_makes expr_outline (expression_below c.args.levels (Some c.in_ok-open.open) c.expect_symbol.new.self.rest.now) c.below-inner.result
    c.followed_by-inner.result (kind.Symbol symbol.CloseParenthesis) c.below-inner.new.cursor c.followed_by-inner.new.self c.below-inner.ensures
    c.followed_by-inner.ensures))

-- ---- chains

pub links-returns-in_err-operand : goal.links-returns-in_err-operand
links-returns-in_err-operand t c =
    let stops : ¬ (c.in_err-operand.field-0.0 ≡ Memory the_refusal)
    → level_spec.links c.args.level c.args.levels c.args.cursor.now.rest.now ≡ Err (c.in_err-operand.field-0.0, c.operand.new.cursor.rest.now) =
    λ no. links_stop c.args.level c.args.levels c.loop-operator.cursor.rest.now c.in-Some.operator c.in-Some.place c.take_operator.new.self.rest.now
    (cc) c.args.cursor.now.rest.now c.loop-operator.links.items c.loop-operator.invariant c.in_err-operand.field-0.0 c.operand.new.cursor.rest.now
    (c.in_err-operand.ensures no) in
    search rules

pub links-loop-operator-smaller : goal.links-loop-operator-smaller
links-loop-operator-smaller t c =
    link_fewer c.args.level c.args.levels c.loop-operator.cursor.rest.now c.in-Some.operator c.in-Some.place c.take_operator.new.self.rest.now
    (cc) (expr_outline c.in_ok-operand.operand) c.operand.new.cursor.rest.now c.in_ok-operand.ensures

pub links-loop-operator-preserved : goal.links-loop-operator-preserved
links-loop-operator-preserved t c =
    links_go c.args.level c.args.levels c.loop-operator.cursor.rest.now c.in-Some.operator c.in-Some.place c.take_operator.new.self.rest.now
    (cc) c.args.cursor.now.rest.now c.loop-operator.links.items c.loop-operator.invariant
    (expr_outline c.in_ok-operand.operand) c.operand.new.cursor.rest.now c.in_ok-operand.ensures
    _ c.push.new.self.items c.in_ok-push.ensures.items (built_link _)

pub links-returns : goal.links-returns
links-returns t c =
    links_end c.args.level c.args.levels c.loop-operator.cursor.rest.now c.args.cursor.now.rest.now c.loop-operator.links.items c.loop-operator.invariant
    c.take_operator.new.self.rest.now c.in_default.ensures

-- ---- names

pub named-returns-then-not-is_empty : goal.named-returns-then-not-is_empty
named-returns-then-not-is_empty t c =
    let some : has_items c.in_ok-selectors.selectors.items ≡ true =
    filled_items c.in_ok-selectors.selectors (c.is_empty.ensures) (c.if-not-is_empty.true) in
    component_named (expression_below c.args.levels) c.args.cursor.now.rest.now c.expect_name.new.self.rest.now c.selectors.new.cursor.rest.now
    (identifier c.in_ok-name.name) c.in_ok-name.ensures (selectors_outlines (c.in_ok-selectors.selectors, c.in_ok-selectors.indexes))
    c.in_ok-selectors.ensures (has_rows false c.in_ok-selectors.selectors.items (map expr_outline c.in_ok-selectors.indexes.items) some)
    ∙ ap (λ e. Ok (e, c.selectors.new.cursor.rest.now)) (sym (built_component c.in_ok-name.name c.in_ok-selectors.selectors c.in_ok-selectors.indexes))

pub named-returns-then-is_empty : goal.named-returns-then-is_empty
named-returns-then-is_empty t c =
    let none : has_items c.in_ok-selectors.selectors.items ≡ false = empty_items c.in_ok-selectors.selectors c.is_empty.ensures c.if-not-is_empty.false in
    let empty : has_items (actuals_outlines c.in_ok-actuals.actuals) ≡ false =
    has_mapped actual_outline c.in_ok-actuals.actuals.items (empty_items c.in_ok-actuals.actuals c.is_empty-2.ensures c.if-is_empty.true) in
    alone_named (expression_below c.args.levels) c.args.cursor.now.rest.now c.expect_name.new.self.rest.now c.selectors.new.cursor.rest.now
    (identifier c.in_ok-name.name) c.in_ok-name.ensures (selectors_outlines (c.in_ok-selectors.selectors, c.in_ok-selectors.indexes))
    c.in_ok-selectors.ensures (no_rows false c.in_ok-selectors.selectors.items (map expr_outline c.in_ok-selectors.indexes.items) none)
    (actuals_outlines c.in_ok-actuals.actuals) c.actuals.new.cursor.rest.now c.in_ok-actuals.ensures empty
    ∙ ap (λ e. Ok (e, c.actuals.new.cursor.rest.now)) (sym (built_name c.in_ok-name.name))

pub named-returns : goal.named-returns
named-returns t c =
    let none : has_items c.in_ok-selectors.selectors.items ≡ false = empty_items c.in_ok-selectors.selectors c.is_empty.ensures c.if-not-is_empty.false in
    let some : has_items (actuals_outlines c.in_ok-actuals.actuals) ≡ true =
    has_mapped actual_outline c.in_ok-actuals.actuals.items (filled_items c.in_ok-actuals.actuals c.is_empty-2.ensures c.if-is_empty.false) in
    call_named (expression_below c.args.levels) c.args.cursor.now.rest.now c.expect_name.new.self.rest.now c.selectors.new.cursor.rest.now
    (identifier c.in_ok-name.name) c.in_ok-name.ensures (selectors_outlines (c.in_ok-selectors.selectors, c.in_ok-selectors.indexes))
    c.in_ok-selectors.ensures (no_rows false c.in_ok-selectors.selectors.items (map expr_outline c.in_ok-selectors.indexes.items) none)
    (actuals_outlines c.in_ok-actuals.actuals) c.actuals.new.cursor.rest.now c.in_ok-actuals.ensures some
    ∙ ap (λ e. Ok (e, c.actuals.new.cursor.rest.now)) (sym (built_call c.in_ok-name.name c.in_ok-actuals.actuals))

-- ---- selectors

pub selectors-loop-indexes-init : goal.selectors-loop-indexes-init
selectors-loop-indexes-init t c =
    subst (λ xs. SelectorsSoFar (expression_below c.args.levels) c.args.cursor.now.rest.now xs c.new-indexes.result.items false c.args.cursor.now.rest.now)
    (sym c.new-selectors.ensures.items)
    (subst (λ xs. SelectorsSoFar (expression_below c.args.levels) c.args.cursor.now.rest.now [] xs false c.args.cursor.now.rest.now)
    (sym c.new-indexes.ensures.items) (selectors_begin (expression_below c.args.levels) c.args.cursor.now.rest.now))

pub selectors-returns-in_err-selector : goal.selectors-returns-in_err-selector
selectors-returns-in_err-selector t c =
    let stops : ¬ (c.in_err-selector.field-0.0 ≡ Memory the_refusal)
    → spec.selectors (expression_below c.args.levels) c.args.cursor.now.rest.now ≡ Err (c.in_err-selector.field-0.0, c.selector.new.cursor.rest.now) =
    λ other. selectors_stop (expression_below c.args.levels) c.args.cursor.now.rest.now c.loop-indexes.selectors.items c.loop-indexes.indexes.items
    c.selector.new.indexes.items c.loop-indexes.within c.loop-indexes.cursor.rest.now c.selector.new.cursor c.loop-indexes.invariant
    c.in_err-selector.field-0.0 (c.in_err-selector.ensures other) in
    search rules

pub selectors-loop-indexes-smaller : goal.selectors-loop-indexes-smaller
selectors-loop-indexes-smaller t c =
    let e : c.selector.result ≡ Ok (Some c.in-Some.selector) = cc in
    selectors_fewer (expression_below c.args.levels) c.args.cursor.now.rest.now c.loop-indexes.selectors.items c.loop-indexes.indexes.items
    c.selector.new.indexes.items c.loop-indexes.within c.loop-indexes.cursor.rest.now c.selector.new.cursor c.loop-indexes.invariant
    (below_no_more c.args.levels) c.in-Some.selector
    (subst (λ r. Selects c.loop-indexes.within (spec.selector (expression_below c.args.levels) c.loop-indexes.within c.loop-indexes.cursor.rest.now) r
    c.selector.new.cursor c.loop-indexes.indexes.items c.selector.new.indexes.items) e c.selector.ensures)

pub selectors-loop-indexes-preserved : goal.selectors-loop-indexes-preserved
selectors-loop-indexes-preserved t c =
    let e : c.selector.result ≡ Ok (Some c.in-Some.selector) = cc in
    let put : c.loop-indexes.selectors.items ++ c.in-Some.selector ∷ [] ≡ c.push.new.self.items = sym c.in_ok-push.ensures.items in
    let within : is_index c.in-Some.selector ≡ c.is_index-within.result = sym c.is_index-within.ensures in
    subst (λ xs. SelectorsSoFar (expression_below c.args.levels) c.args.cursor.now.rest.now xs c.selector.new.indexes.items c.is_index-within.result
    c.selector.new.cursor.rest.now) put
    (subst (λ b. SelectorsSoFar (expression_below c.args.levels) c.args.cursor.now.rest.now (c.loop-indexes.selectors.items ++ c.in-Some.selector ∷ [])
    c.selector.new.indexes.items b c.selector.new.cursor.rest.now) within
    (selectors_go (expression_below c.args.levels) c.args.cursor.now.rest.now c.loop-indexes.selectors.items c.loop-indexes.indexes.items
    c.selector.new.indexes.items c.loop-indexes.within c.loop-indexes.cursor.rest.now c.selector.new.cursor c.loop-indexes.invariant
    (below_no_more c.args.levels) c.in-Some.selector
    (subst (λ r. Selects c.loop-indexes.within (spec.selector (expression_below c.args.levels) c.loop-indexes.within c.loop-indexes.cursor.rest.now) r
    c.selector.new.cursor c.loop-indexes.indexes.items c.selector.new.indexes.items) e c.selector.ensures)))

pub selectors-returns : goal.selectors-returns
selectors-returns t c =
    let e : c.selector.result ≡ Ok None = cc in
    selectors_end (expression_below c.args.levels) c.args.cursor.now.rest.now c.loop-indexes.selectors.items c.loop-indexes.indexes.items
    c.selector.new.indexes.items c.loop-indexes.within c.loop-indexes.cursor.rest.now c.selector.new.cursor c.loop-indexes.invariant
    (subst (λ r. Selects c.loop-indexes.within (spec.selector (expression_below c.args.levels) c.loop-indexes.within c.loop-indexes.cursor.rest.now) r
    c.selector.new.cursor c.loop-indexes.indexes.items c.selector.new.indexes.items) e c.selector.ensures)

-- ---- the members of a set

pub member_list-returns-in_err-put : goal.member_list-returns-in_err-put
member_list-returns-in_err-put t c =
    let part = spec.member (expression_below c.args.levels) in
    let here = c.loop-members.cursor.rest.now in
    let stops : ¬ (c.in_err-put.field-0.0 ≡ Memory the_refusal)
    → separated symbol.Comma part c.args.cursor.now.rest.now ≡ Err (c.in_err-put.field-0.0, c.member.new.cursor.rest.now) =
    λ other. members_stop part c.loop-members.members.items c.loop-members.designators.items c.loop-members.invariant _
    (no_member (part here) c.member.new.cursor c.loop-members.members.items c.member.new.members.items c.loop-members.designators.items
    c.put.new.list.items c.member.result c.in_err-put.field-0.0 c.member.ensures c.in_err-put.ensures other) in
    search rules

pub member_list-loop-members-smaller : goal.member_list-loop-members-smaller
member_list-loop-members-smaller t c =
    let part = spec.member (expression_below c.args.levels) in
    let here = c.loop-members.cursor.rest.now in
    let was = was_member (part here) c.member.new.cursor c.loop-members.members.items c.member.new.members.items c.loop-members.designators.items
    c.put.new.list.items c.member.result c.member.ensures c.in_ok-put.ensures in
    members_fewer part c.member.new.cursor c.loop-members.members.items c.member.new.members.items c.loop-members.designators.items c.put.new.list.items
    c.loop-members.invariant was (member_no_more (expression_below c.args.levels) (below_no_more c.args.levels)) c.in-Some.field-0
    c.take_symbol.new.self.rest.now c.in-Some.ensures

pub member_list-loop-members-preserved : goal.member_list-loop-members-preserved
member_list-loop-members-preserved t c =
    let part = spec.member (expression_below c.args.levels) in
    let here = c.loop-members.cursor.rest.now in
    let was = was_member (part here) c.member.new.cursor c.loop-members.members.items c.member.new.members.items c.loop-members.designators.items
    c.put.new.list.items c.member.result c.member.ensures c.in_ok-put.ensures in
    members_go part c.member.new.cursor c.loop-members.members.items c.member.new.members.items c.loop-members.designators.items c.put.new.list.items
    c.loop-members.invariant was (member_no_more (expression_below c.args.levels) (below_no_more c.args.levels)) c.in-Some.field-0
    c.take_symbol.new.self.rest.now c.in-Some.ensures

pub member_list-returns-in_default : goal.member_list-returns-in_default
member_list-returns-in_default t c =
    let part = spec.member (expression_below c.args.levels) in
    let here = c.loop-members.cursor.rest.now in
    let was = was_member (part here) c.member.new.cursor c.loop-members.members.items c.member.new.members.items c.loop-members.designators.items
    c.put.new.list.items c.member.result c.member.ensures c.in_ok-put.ensures in
    members_end part c.member.new.cursor c.loop-members.members.items c.member.new.members.items c.loop-members.designators.items c.put.new.list.items
    c.loop-members.invariant was c.take_symbol.new.self.rest.now c.in_default.ensures

-- ---- actual parameters

pub actual_list-returns-in_err-put : goal.actual_list-returns-in_err-put
actual_list-returns-in_err-put t c =
    let stops : ¬ (c.in_err-put.field-0.0 ≡ Memory the_refusal)
    → separated symbol.Comma (spec.actual (expression_below c.args.levels)) c.args.cursor.now.rest.now
    ≡ Err (c.in_err-put.field-0.0, c.actual.new.cursor.rest.now) =
    λ other. parts_stop symbol.Comma (spec.actual (expression_below c.args.levels)) c.loop-actuals.invariant _
    (not_put actual_outline (spec.actual (expression_below c.args.levels) c.loop-actuals.cursor.rest.now) c.actual.result c.actual.new.cursor
    c.loop-actuals.actuals.items c.put.new.list.items c.in_err-put.field-0.0 c.actual.ensures c.in_err-put.ensures other) in
    search rules

pub actual_list-loop-actuals-smaller : goal.actual_list-loop-actuals-smaller
actual_list-loop-actuals-smaller t c =
    let w = was_put actual_outline (spec.actual (expression_below c.args.levels) c.loop-actuals.cursor.rest.now) c.actual.result c.actual.new.cursor
    c.loop-actuals.actuals.items c.put.new.list.items c.actual.ensures c.in_ok-put.ensures in
    parts_fewer symbol.Comma (spec.actual (expression_below c.args.levels)) (actual_no_more (expression_below c.args.levels) (below_no_more c.args.levels))
    c.loop-actuals.cursor.rest.now c.actual.new.cursor.rest.now c.take_symbol.new.self.rest.now (actual_outline w.made) c.in-Some.field-0
    w.read c.in-Some.ensures

pub actual_list-loop-actuals-preserved : goal.actual_list-loop-actuals-preserved
actual_list-loop-actuals-preserved t c =
    let w = was_put actual_outline (spec.actual (expression_below c.args.levels) c.loop-actuals.cursor.rest.now) c.actual.result c.actual.new.cursor
    c.loop-actuals.actuals.items c.put.new.list.items c.actual.ensures c.in_ok-put.ensures in
    list_goes actual_outline symbol.Comma (spec.actual (expression_below c.args.levels)) c.loop-actuals.actuals.items c.loop-actuals.invariant
    w.made c.put.new.list.items w.behind c.actual.new.cursor.rest.now w.read
    (actual_no_more (expression_below c.args.levels) (below_no_more c.args.levels)) c.in-Some.field-0 c.take_symbol.new.self.rest.now c.in-Some.ensures

pub actual_list-returns-in_default : goal.actual_list-returns-in_default
actual_list-returns-in_default t c =
    let w = was_put actual_outline (spec.actual (expression_below c.args.levels) c.loop-actuals.cursor.rest.now) c.actual.result c.actual.new.cursor
    c.loop-actuals.actuals.items c.put.new.list.items c.actual.ensures c.in_ok-put.ensures in
    list_ends actual_outline symbol.Comma (spec.actual (expression_below c.args.levels)) c.loop-actuals.actuals.items c.loop-actuals.invariant
    w.made c.put.new.list.items w.behind c.actual.new.cursor.rest.now w.read c.take_symbol.new.self.rest.now c.in_default.ensures
