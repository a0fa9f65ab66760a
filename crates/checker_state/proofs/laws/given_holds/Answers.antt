use Rattle.checker_state.proofs.Given.{given-holds}
use Rattle.checker_state.proofs.laws.given_holds.Goals as goal

pub returns : goal.returns
returns c = given-holds
