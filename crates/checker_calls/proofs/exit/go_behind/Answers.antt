use Rattle.checker_trail.proofs.Ways.{moves-then}
use Rattle.checker_calls.proofs.exit.go_behind.Goals as goal

pub returns : goal.returns
returns c = moves-then c.touch.ensures c.add_exits.ensures
