use Rattle.checker_trail.proofs.Ways.{moves-then}
use Rattle.checker_trail.proofs.state.State.head.Goals as goal

pub returns : goal.returns
returns c = moves-then c.turn.ensures c.claim_all.ensures
