use Rattle.checker_trail.proofs.Ways.{HasTaken}
use Rattle.std.proofs.Common.{drop}
use Rattle.checker_trail.proofs.state.State.leave.Given as goal

abbrev pub invariant-loop-place : goal.invariant-loop-place
invariant-loop-place l = HasTaken (drop l.place l.changes.items) l.initial.self l.self
