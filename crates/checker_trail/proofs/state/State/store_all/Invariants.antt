use Rattle.std.proofs.Common.{take}
use Rattle.checker_state.specs.Stores.{all_stored}
use Rattle.checker_trail.specs.Trail.{Moves}
use Rattle.checker_state.specs.View.{said_reach}
use Rattle.checker_trail.proofs.state.State.store_all.Given as goal

abbrev pub invariant-loop-row : goal.invariant-loop-row
invariant-loop-row l = Moves (all_stored (said_reach l.reach) (take l.row-index l.stores)) l.fn.self l.self
