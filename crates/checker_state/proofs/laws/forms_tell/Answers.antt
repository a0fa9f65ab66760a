use Rattle.checker_state.proofs.Refined.{forms-tell}
use Rattle.checker_state.proofs.laws.forms_tell.Goals as goal

pub returns : goal.returns
returns c = forms-tell
