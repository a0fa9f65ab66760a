use Rattle.checker_state.specs.State.{with_defined}
use Rattle.checker_loops.specs.BlockView.{rows_defined}
use Rattle.checker_loops.proofs.Stepped.{moves-row, rows_to}
use Rattle.checker_loops.proofs.Beginning.{defined-over}
use Rattle.checker_loops.proofs.starts.define.Goals as goal

pub loop-row-preserved : goal.loop-row-preserved
loop-row-preserved c =
    let first = c.args.span.first in
    let row = c.loop-row.row in
    moves-row rows_defined (with_defined row) first row c.loop-row.auto.row c.loop-row.invariant c.define.ensures
    (defined-over (rows_to first row) row)
