use Rattle.std.proofs.Common.{take}
use Rattle.checker_state.specs.Stores.{all_stored}
use Rattle.checker_state.specs.View.{said_reach}
use Rattle.checker_trail.specs.Trail.{Moves}
use Rattle.cert_checker.specs.StoresView.{said_stores}
use Rattle.cert_checker.proofs.stores.Stores.store.Given as goal

-- so far
abbrev pub invariant-loop-place : goal.invariant-loop-place
invariant-loop-place l = Moves (all_stored (said_reach l.reach) (take l.place (said_stores l.self))) l.fn.state l.state
