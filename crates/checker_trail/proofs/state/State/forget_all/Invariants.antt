use Rattle.std.proofs.Common.{take}
use Rattle.checker_state.specs.Loops.{all_forgotten}
use Rattle.checker_trail.specs.Trail.{Moves}
use Rattle.checker_trail.proofs.state.State.forget_all.Given as goal

abbrev pub invariant-loop-root : goal.invariant-loop-root
invariant-loop-root l = Moves (all_forgotten (take l.root-index l.roots)) l.fn.self l.self
