use Rattle.checker_trail.specs.Trail.{Moves, over_held}
use Rattle.checker_known.proofs.HeldLists.{kept_from}
use Rattle.checker_trail.proofs.state.State.retain.Given as goal

abbrev pub invariant-loop-place : goal.invariant-loop-place
invariant-loop-place l = Moves (over_held (kept_from l.kept l.place)) l.fn.self l.self
