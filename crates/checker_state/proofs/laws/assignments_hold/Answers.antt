use Rattle.checker_state.proofs.Assigned.{assignments-hold}
use Rattle.checker_state.proofs.laws.assignments_hold.Goals as goal

pub returns : goal.returns
returns c = assignments-hold
