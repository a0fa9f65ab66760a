use Rattle.checker_state.proofs.Valued.{values-tell}
use Rattle.checker_state.proofs.laws.values_tell.Goals as goal

pub returns : goal.returns
returns c = values-tell
