use Rattle.checker_state.proofs.Refined.{conditions-tell}
use Rattle.checker_state.proofs.laws.conditions_tell.Goals as goal

pub returns : goal.returns
returns c = conditions-tell
