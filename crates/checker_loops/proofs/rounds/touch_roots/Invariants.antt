use Rattle.std.proofs.Common.{take}
use Rattle.checker_rows.specs.Limits.{row_limits}
use Rattle.checker_rows.specs.Rows.{rows_of, rows_touched}
use Rattle.checker_state.specs.Loops.{with_limits}
use Rattle.checker_trail.specs.Trail.{Moves}
use Rattle.checker_loops.proofs.rounds.touch_roots.Given as goal

-- the variables so far
abbrev pub invariant-loop-root : goal.invariant-loop-root
invariant-loop-root l = Moves (with_limits (row_limits (rows_of l.rows)) (rows_touched l.rows (take l.root-index l.roots))) l.fn.state l.state
