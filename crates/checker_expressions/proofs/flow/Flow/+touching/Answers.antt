use Rattle.std.proofs.Common.{◌≡◌, ◌∙◌, ap, ap₂, sym, Bool, ◌||◌, List, ◌∷◌}
use Rattle.std.specs.List.{list_any}
use Rattle.std.proofs.lemmas.List.Folds.{list_any-append}
use Rattle.typed_tree.specs.declared.tree.Expr.{Expr}
use Rattle.typed_tree.specs.declared.tree.Link.{Link}
use Rattle.typed_tree.specs.declared.tree.Passed.{Passed}
use Rattle.checker_expressions.specs.View.{callees_at}
use Rattle.checker_expressions.specs.Walk.{Calling, Joint, PassedPiece, Piece, calls_in, index_pieces, joint_of, passed_piece_of, piece_of, touches}
use Rattle.checker_expressions.proofs.TouchedParts.{actual_calls, all_told, calls-Call, calls-Chain, calls-Compare, link_calls, touched-found, touched-on}
use Rattle.checker_expressions.proofs.Unrolled.{link-right}
use Rattle.checker_expressions.proofs.flow.Flow.+touching.Goals as goal

pub is_touching-returns-else-is_touching : goal.is_touching-returns-else-is_touching
is_touching-returns-else-is_touching t c =
    let it = c.in-Chain in
    let test = touches (callees_at c.args.self.now) c.args.root in
    let inner = λ (e : Expr). (piece_of e).calls in
    c.links_touch.ensures ∙ ap (λ (links : List Link). list_any test (link_calls links)) c.as_slice-else-is_touching.ensures.value
    ∙ sym (ap (λ (e : Expr). list_any test (inner e)) it.is ∙ ap (list_any test) (calls-Chain it.first it.rest)
    ∙ list_any-append test (inner it.first.value) (link_calls it.rest.items)
    ∙ ap (λ (b : Bool). b || list_any test (link_calls it.rest.items))
    (ap (λ (e : Expr). list_any test (inner e)) (sym c.deref-in-Chain.ensures) ∙ sym c.is_touching-in-Chain.ensures ∙ c.if-is_touching.false))

pub is_touching-returns-then-are_touching : goal.is_touching-returns-then-are_touching
is_touching-returns-then-are_touching t c =
    let it = c.in-Compare in
    let test = touches (callees_at c.args.self.now) c.args.root in
    let all = λ (indexes : List Expr). calls_in (index_pieces indexes) in
    c.if-are_touching.true
    ∙ sym (ap (λ (e : Expr). list_any test (piece_of e).calls) it.is
    ∙ ap (list_any test) (calls-Compare it.number it.relation it.left it.left_indexes it.right it.right_indexes)
    ∙ list_any-append test (all it.left_indexes.items) (all it.right_indexes.items)
    ∙ ap (λ (b : Bool). b || list_any test (all it.right_indexes.items))
    (ap (λ (indexes : List Expr). list_any test (all indexes)) (sym c.as_slice-in-Compare.ensures.value) ∙ sym c.are_touching-in-Compare.ensures
    ∙ c.if-are_touching.true))

pub is_touching-returns-else-are_touching : goal.is_touching-returns-else-are_touching
is_touching-returns-else-are_touching t c =
    let it = c.in-Compare in
    let test = touches (callees_at c.args.self.now) c.args.root in
    let all = λ (indexes : List Expr). calls_in (index_pieces indexes) in
    c.are_touching-else-are_touching.ensures ∙ ap (λ (indexes : List Expr). list_any test (all indexes)) c.as_slice-else-are_touching.ensures.value
    ∙ sym (ap (λ (e : Expr). list_any test (piece_of e).calls) it.is
    ∙ ap (list_any test) (calls-Compare it.number it.relation it.left it.left_indexes it.right it.right_indexes)
    ∙ list_any-append test (all it.left_indexes.items) (all it.right_indexes.items)
    ∙ ap (λ (b : Bool). b || list_any test (all it.right_indexes.items))
    (ap (λ (indexes : List Expr). list_any test (all indexes)) (sym c.as_slice-in-Compare.ensures.value) ∙ sym c.are_touching-in-Compare.ensures
    ∙ c.if-are_touching.false))

pub is_touching-returns-then-call_touches : goal.is_touching-returns-then-call_touches
is_touching-returns-then-call_touches t c =
    let it = c.in-Call in
    let test = touches (callees_at c.args.self.now) c.args.root in
    let own = λ (actuals : List Passed). (let one : Calling = record { call = it.call; actuals = all_told actuals } in one) in
    c.if-call_touches.true
    ∙ sym (ap (λ (e : Expr). list_any test (piece_of e).calls) it.is ∙ ap (list_any test) (calls-Call it.call it.actuals)
    ∙ ap (λ (b : Bool). b || list_any test (actual_calls it.actuals.items))
    (ap (λ (actuals : List Passed). test (own actuals)) (sym c.as_slice-in-Call.ensures.value) ∙ sym c.call_touches.ensures ∙ c.if-call_touches.true))

pub is_touching-returns-else-call_touches : goal.is_touching-returns-else-call_touches
is_touching-returns-else-call_touches t c =
    let it = c.in-Call in
    let test = touches (callees_at c.args.self.now) c.args.root in
    let own = λ (actuals : List Passed). (let one : Calling = record { call = it.call; actuals = all_told actuals } in one) in
    c.actuals_touch.ensures ∙ ap (λ (actuals : List Passed). list_any test (actual_calls actuals)) c.as_slice-else-call_touches.ensures.value
    ∙ sym (ap (λ (e : Expr). list_any test (piece_of e).calls) it.is ∙ ap (list_any test) (calls-Call it.call it.actuals)
    ∙ ap (λ (b : Bool). b || list_any test (actual_calls it.actuals.items))
    (ap (λ (actuals : List Passed). test (own actuals)) (sym c.as_slice-in-Call.ensures.value) ∙ sym c.call_touches.ensures ∙ c.if-call_touches.false))

-- ---- lists

pub are_touching-returns-then-is_touching : goal.are_touching-returns-then-is_touching
are_touching-returns-then-is_touching t c =
    touched-found (touches (callees_at c.args.self.now) c.args.root) piece_of (λ (piece : Piece). piece.calls) c.args.expressions.now
    c.loop-expression.expression-index c.expression-item.result c.loop-expression-test.true c.expression-item.is
    (sym c.is_touching.ensures ∙ c.if-is_touching.true)
    ∙ c.loop-expression.invariant

pub are_touching-loop-expression-preserved : goal.are_touching-loop-expression-preserved
are_touching-loop-expression-preserved t c =
    touched-on (touches (callees_at c.args.self.now) c.args.root) piece_of (λ (piece : Piece). piece.calls) c.args.expressions.now
    c.loop-expression.expression-index c.expression-item.result c.loop-expression-test.true c.expression-item.is
    (sym c.is_touching.ensures ∙ c.if-is_touching.false)
    ∙ c.loop-expression.invariant

pub links_touch-returns-then-is_touching : goal.links_touch-returns-then-is_touching
links_touch-returns-then-is_touching t c =
    let test = touches (callees_at c.args.self.now) c.args.root in
    let link = c.link-item.result in
    touched-found test joint_of (λ (joint : Joint). joint.right.calls) c.args.links.now c.loop-link.link-index link c.loop-link-test.true c.link-item.is
    (ap (λ (piece : Piece). list_any test piece.calls) (link-right link) ∙ sym c.is_touching.ensures ∙ c.if-is_touching.true)
    ∙ c.loop-link.invariant

pub links_touch-loop-link-preserved : goal.links_touch-loop-link-preserved
links_touch-loop-link-preserved t c =
    let test = touches (callees_at c.args.self.now) c.args.root in
    let link = c.link-item.result in
    touched-on test joint_of (λ (joint : Joint). joint.right.calls) c.args.links.now c.loop-link.link-index link c.loop-link-test.true c.link-item.is
    (ap (λ (piece : Piece). list_any test piece.calls) (link-right link) ∙ sym c.is_touching.ensures ∙ c.if-is_touching.false)
    ∙ c.loop-link.invariant

pub actuals_touch-returns-then-actual_touches : goal.actuals_touch-returns-then-actual_touches
actuals_touch-returns-then-actual_touches t c =
    touched-found (touches (callees_at c.args.self.now) c.args.root) passed_piece_of (λ (piece : PassedPiece). piece.calls) c.args.actuals.now
    c.loop-actual.actual-index c.actual-item.result c.loop-actual-test.true c.actual-item.is
    (sym c.actual_touches.ensures ∙ c.if-actual_touches.true)
    ∙ c.loop-actual.invariant

pub actuals_touch-loop-actual-preserved : goal.actuals_touch-loop-actual-preserved
actuals_touch-loop-actual-preserved t c =
    touched-on (touches (callees_at c.args.self.now) c.args.root) passed_piece_of (λ (piece : PassedPiece). piece.calls) c.args.actuals.now
    c.loop-actual.actual-index c.actual-item.result c.loop-actual-test.true c.actual-item.is
    (sym c.actual_touches.ensures ∙ c.if-actual_touches.false)
    ∙ c.loop-actual.invariant
