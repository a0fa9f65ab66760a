use Rattle.checker_state.proofs.Grown.{growths-hold}
use Rattle.checker_state.proofs.laws.growths_hold.Goals as goal

pub returns : goal.returns
returns c = growths-hold
