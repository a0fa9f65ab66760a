use Rattle.std.proofs.Common.{take}
use Rattle.checker_trail.specs.Trail.{Moves, all_ungrown}
use Rattle.checker_trail.proofs.state.State.stop_growing.Given as goal

abbrev pub invariant-loop-root : goal.invariant-loop-root
invariant-loop-root l = Moves (all_ungrown (take l.root-index l.roots)) l.fn.self l.self
