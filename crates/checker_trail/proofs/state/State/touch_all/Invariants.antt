use Rattle.std.proofs.Common.{take}
use Rattle.checker_rows.specs.Limits.{row_limits}
use Rattle.checker_rows.specs.Rows.{rows_of}
use Rattle.checker_state.specs.Loops.{with_limits}
use Rattle.checker_trail.specs.Trail.{Moves}
use Rattle.checker_trail.proofs.state.State.touch_all.Given as goal

abbrev pub invariant-loop-row : goal.invariant-loop-row
invariant-loop-row l = Moves (with_limits (row_limits (rows_of l.fn.self.table.now)) (take l.row-index l.rows)) l.fn.self l.self
