use Rattle.checker_trail.proofs.Ways.{moves-then}
use Rattle.checker_calls.proofs.exit.touch.Goals as goal

pub returns : goal.returns
returns c = moves-then c.forget.ensures c.touch_roots.ensures
