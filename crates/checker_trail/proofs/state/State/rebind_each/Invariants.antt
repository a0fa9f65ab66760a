use Rattle.std.proofs.Common.{drop}
use Rattle.checker_state.specs.View.{held_by}
use Rattle.checker_known.proofs.HeldLists.{changed_each}
use Rattle.checker_trail.specs.Trail.{Moves, over_held}
use Rattle.checker_trail.proofs.state.State.rebind_each.Given as goal

abbrev pub invariant-loop-i : goal.invariant-loop-i
invariant-loop-i l = Moves (over_held (changed_each (held_by l.how) (drop l.i l.places))) l.fn.self l.self
