use Rattle.std.proofs.Common.{sym, ◌∙◌}
use Rattle.interpreter_state.proofs.RowOrder.{order-behind}
use Rattle.interpreter_state.proofs.rows.order_between.Goals as goal

pub returns-then-row-other : goal.returns-then-row-other
returns-then-row-other c =
    let behind = order-behind c.args.row.now c.args.other.now c.loop-place.place c.loop-place-test.false c.loop-place.auto.place-end c.if-row-other.true in
    c.new-then-row-other.ensures ∙ sym behind ∙ c.loop-place.invariant
