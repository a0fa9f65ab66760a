use Rattle.checker_state.proofs.Joined.{join-holds}
use Rattle.checker_state.proofs.laws.join_holds.Goals as goal

pub returns : goal.returns
returns c = join-holds
