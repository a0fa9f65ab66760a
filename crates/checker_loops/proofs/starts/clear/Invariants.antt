use Rattle.checker_trail.specs.Trail.{Moves}
use Rattle.checker_loops.proofs.Stepped.{rows_to}
use Rattle.checker_loops.specs.BlockView.{rows_vacant}
use Rattle.checker_loops.proofs.starts.clear.Given as goal

-- the rows so far
abbrev pub invariant-loop-row : goal.invariant-loop-row
invariant-loop-row l = Moves (rows_vacant (rows_to l.initial.row l.row)) l.fn.state l.state
