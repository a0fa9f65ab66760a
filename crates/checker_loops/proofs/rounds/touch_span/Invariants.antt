use Rattle.checker_rows.specs.Limits.{row_limits}
use Rattle.checker_rows.specs.Rows.{rows_of}
use Rattle.checker_state.specs.Loops.{with_limits}
use Rattle.checker_trail.specs.Trail.{Moves}
use Rattle.checker_loops.proofs.Stepped.{rows_to}
use Rattle.checker_loops.proofs.rounds.touch_span.Given as goal

-- the rows so far
abbrev pub invariant-loop-row : goal.invariant-loop-row
invariant-loop-row l = Moves (with_limits (row_limits (rows_of l.rows)) (rows_to l.fn.span.first l.row)) l.fn.state l.state
