use Rattle.checker_state.proofs.Assigned.{undefined-known}
use Rattle.checker_state.proofs.Looped.{replaced-known}
use Rattle.checker_state.proofs.laws.leaving_holds.Goals as goal

pub returns : goal.returns
returns c = record { of_bound = replaced-known; of_undefined = undefined-known }
