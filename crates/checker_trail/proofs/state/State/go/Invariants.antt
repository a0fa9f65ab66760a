use Rattle.checker_trail.proofs.Ways.{HasMade}
use Rattle.std.proofs.Common.{take}
use Rattle.checker_trail.proofs.state.State.go.Given as goal

abbrev pub invariant-loop-change : goal.invariant-loop-change
invariant-loop-change l = HasMade (take l.change-index l.branch.changes.items) l.fn.self l.self
