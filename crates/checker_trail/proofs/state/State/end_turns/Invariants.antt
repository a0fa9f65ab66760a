use Rattle.std.proofs.Common.{take}
use Rattle.checker_trail.specs.Trail.{Moves}
use Rattle.checker_trail.proofs.Outside.{all_outside}
use Rattle.checker_trail.proofs.state.State.end_turns.Given as goal

abbrev pub invariant-loop-root : goal.invariant-loop-root
invariant-loop-root l = Moves (all_outside l.depth (take l.root-index l.touched)) l.fn.self l.self
