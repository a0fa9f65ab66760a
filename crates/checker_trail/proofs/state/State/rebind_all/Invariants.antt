use Rattle.checker_trail.specs.Trail.{Moves, over_held}
use Rattle.checker_state.specs.View.{held_by}
use Rattle.checker_known.proofs.HeldLists.{changed_from}
use Rattle.checker_trail.proofs.state.State.rebind_all.Given as goal

abbrev pub invariant-loop-place : goal.invariant-loop-place
invariant-loop-place l = Moves (over_held (changed_from (held_by l.how) l.place)) l.fn.self l.self
