use Rattle.checker_trail.proofs.Ways.{moves-then}
use Rattle.checker_trail.proofs.state.State.narrow.Goals as goal

pub returns : goal.returns
returns c = moves-then c.set_range.ensures c.unless_empty.ensures
