use Rattle.std.proofs.Common.{◌∙◌, Bool, ap, map, sym}
use Rattle.typed_tree.specs.declared.tree.Expr.TheFolds.{fold_out-Link}
use Rattle.typed_tree.specs.Calls.{any_holds, expression_holds_call, holds_call, link_holds_call, link_holds_call_of, passed_step_holds_call}
use Rattle.typed_tree.proofs.AnyOf.{any-found, any-on}
use Rattle.typed_tree.proofs.calls.+holds_call.Goals as goal

pub hold_call-returns-then-holds_call : goal.hold_call-returns-then-holds_call
hold_call-returns-then-holds_call t c =
    any-found holds_call c.args.expressions.now c.loop-expression.expression-index c.expression-item.result c.loop-expression-test.true
    c.expression-item.is (sym c.holds_call.ensures ∙ c.if-holds_call.true)
    ∙ c.loop-expression.invariant

pub hold_call-loop-expression-preserved : goal.hold_call-loop-expression-preserved
hold_call-loop-expression-preserved t c =
    any-on holds_call c.args.expressions.now c.loop-expression.expression-index c.expression-item.result c.loop-expression-test.true
    c.expression-item.is (sym c.holds_call.ensures ∙ c.if-holds_call.false)
    ∙ c.loop-expression.invariant

pub links_hold_call-returns-then-holds_call : goal.links_hold_call-returns-then-holds_call
links_hold_call-returns-then-holds_call t c =
    let link = c.link-item.result in
    let here = fold_out-Link Bool Bool Bool expression_holds_call passed_step_holds_call link_holds_call link in
    any-found link_holds_call_of c.deref-link-items.result.now c.loop-link.link-index link c.loop-link-test.true c.link-item.is
    (here ∙ sym c.holds_call.ensures ∙ c.if-holds_call.true)
    ∙ c.loop-link.invariant
    ∙ ap (λ links. any_holds (map link_holds_call_of links)) c.deref-link-items.ensures.value

pub links_hold_call-loop-link-preserved : goal.links_hold_call-loop-link-preserved
links_hold_call-loop-link-preserved t c =
    let link = c.link-item.result in
    let here = fold_out-Link Bool Bool Bool expression_holds_call passed_step_holds_call link_holds_call link in
    any-on link_holds_call_of c.deref-link-items.result.now c.loop-link.link-index link c.loop-link-test.true
    c.link-item.is (here ∙ sym c.holds_call.ensures ∙ c.if-holds_call.false)
    ∙ c.loop-link.invariant
