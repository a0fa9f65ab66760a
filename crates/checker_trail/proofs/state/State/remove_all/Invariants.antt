use Rattle.std.proofs.Common.{drop}
use Rattle.checker_known.specs.Longer.{without}
use Rattle.checker_trail.specs.Trail.{Moves, over_held}
use Rattle.checker_trail.proofs.state.State.remove_all.Given as goal

abbrev pub invariant-loop-i : goal.invariant-loop-i
invariant-loop-i l = Moves (over_held (without (drop l.i l.places))) l.fn.self l.self
