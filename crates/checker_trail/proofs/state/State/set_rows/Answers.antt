use Rattle.std.proofs.Common.{take}
use Rattle.checker_trail.specs.Meets.{with_rows}
use Rattle.checker_trail.specs.Trail.{with_state}
use Rattle.checker_known.specs.View.{said_row}
use Rattle.checker_trail.proofs.Meeting.{rows-append}
use Rattle.checker_trail.proofs.Ways.{moves-more}
use Rattle.checker_trail.proofs.state.State.set_rows.Goals as goal

pub loop-row-preserved : goal.loop-row-preserved
loop-row-preserved c =
    let rows = c.args.rows.now in
    let i = c.loop-row.row-index in
    let one = c.loop-row-item.result in
    moves-more with_rows (with_state one.0 (said_row one.1)) rows i one c.loop-row-test.true c.loop-row-item.is
    c.loop-row.invariant c.set_row.ensures (rows-append (take i rows) one)
