use Rattle.std.proofs.Common.{take}
use Rattle.checker_trail.specs.Trail.{Moves, over_held}
use Rattle.checker_trail.proofs.state.State.retain_none.Given as goal

abbrev pub invariant-loop-place : goal.invariant-loop-place
invariant-loop-place l = Moves (over_held (take l.place)) l.fn.self l.self
