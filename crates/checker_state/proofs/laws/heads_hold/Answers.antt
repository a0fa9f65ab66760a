use Rattle.checker_state.proofs.Looped.{heads-hold}
use Rattle.checker_state.proofs.laws.heads_hold.Goals as goal

pub returns : goal.returns
returns c = heads-hold
