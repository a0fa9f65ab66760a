use Rattle.std.proofs.Common.{take}
use Rattle.checker_state.specs.Changes.{all_changed}
use Rattle.checker_trail.specs.Trail.{Moves}
use Rattle.checker_trail.proofs.state.State.change_all.Given as goal

abbrev pub invariant-loop-root : goal.invariant-loop-root
invariant-loop-root l = Moves (all_changed (take l.root-index l.roots)) l.fn.self l.self
