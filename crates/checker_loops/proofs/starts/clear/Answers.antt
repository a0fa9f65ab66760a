use Rattle.domain.specs.Interval.{vacant}
use Rattle.checker_state.specs.State.{with_range}
use Rattle.checker_loops.specs.BlockView.{rows_vacant}
use Rattle.checker_loops.proofs.Stepped.{moves-row, rows_to}
use Rattle.checker_loops.proofs.Beginning.{vacant-over}
use Rattle.checker_loops.proofs.starts.clear.Goals as goal

pub loop-row-preserved : goal.loop-row-preserved
loop-row-preserved c =
    let first = c.args.span.first in
    let row = c.loop-row.row in
    moves-row rows_vacant (with_range row vacant) first row c.loop-row.auto.row c.loop-row.invariant c.set_range.ensures
    (vacant-over (rows_to first row) row)
