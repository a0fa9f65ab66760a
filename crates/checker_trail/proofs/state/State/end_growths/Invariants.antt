use Rattle.checker_trail.specs.Trail.{Moves}
use Rattle.checker_trail.proofs.Outside.{outside_before}
use Rattle.checker_trail.proofs.state.State.end_growths.Given as goal

abbrev pub invariant-loop-row : goal.invariant-loop-row
invariant-loop-row l = Moves (outside_before l.depth l.row) l.fn.self l.self
