use Rattle.checker_state.proofs.Stored.{stores-hold}
use Rattle.checker_state.proofs.laws.stores_hold.Goals as goal

pub returns : goal.returns
returns c = stores-hold
