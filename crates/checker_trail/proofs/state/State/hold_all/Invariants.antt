use Rattle.std.proofs.Common.{take}
use Rattle.checker_state.specs.State.{with_more}
use Rattle.checker_trail.specs.Trail.{Moves, over_held}
use Rattle.checker_known.proofs.HeldLists.{said_all}
use Rattle.checker_trail.proofs.state.State.hold_all.Given as goal

abbrev pub invariant-loop-held : goal.invariant-loop-held
invariant-loop-held l = Moves (over_held (with_more (said_all (take l.held-index l.more)))) l.fn.self l.self
