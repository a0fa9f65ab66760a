use Rattle.checker_loops.proofs.Stepped.{moves-row, rows_to}
use Rattle.checker_calls.specs.Exit.{row_behind, rows_behind}
use Rattle.checker_calls.proofs.GoneBehind.{behind-row}
use Rattle.checker_calls.proofs.exit.touch_rows.Goals as goal

pub loop-row-preserved : goal.loop-row-preserved
loop-row-preserved c =
    let tree = c.args.rows.now in
    let changes = c.args.touches.now.changes in
    let first = c.args.span.first in
    let row = c.loop-row.row in
    moves-row (rows_behind tree changes) (row_behind tree changes row) first row c.loop-row.auto.row c.loop-row.invariant c.touch_row.ensures
    (λ state. behind-row tree changes (rows_to first row) row state)
