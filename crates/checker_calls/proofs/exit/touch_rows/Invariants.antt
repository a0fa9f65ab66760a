use Rattle.checker_trail.specs.Trail.{Moves}
use Rattle.checker_loops.proofs.Stepped.{rows_to}
use Rattle.checker_calls.specs.Exit.{rows_behind}
use Rattle.checker_calls.proofs.exit.touch_rows.Given as goal

-- the rows so far
abbrev pub invariant-loop-row : goal.invariant-loop-row
invariant-loop-row l = Moves (rows_behind l.rows l.touches.changes (rows_to l.fn.span.first l.row)) l.fn.state l.state
