use Rattle.std.proofs.Common.{get_or}
use Rattle.std.proofs.lemmas.List.{get_or_default}
use Rattle.checker_trail.proofs.Turns.{limits-more}
use Rattle.checker_trail.proofs.state.State.touch_all.Goals as goal

pub loop-row-preserved : goal.loop-row-preserved
loop-row-preserved c =
    let rows = c.args.rows.now in
    let i = c.loop-row.row-index in
    let row = get_or rows i 0 in
    limits-more rows i row c.row_limits.result c.loop-row-test.true (get_or_default rows i 0 row c.loop-row-test.true) c.row_limits.ensures
    c.loop-row.invariant c.set_range.ensures
