use Rattle.std.proofs.Common.{◌-◌}
use Rattle.checker_known.specs.Halves.{passes}
use Rattle.checker_known.proofs.HeldLists.{said_all}
use Rattle.checker_known.proofs.Searches.{Halved}
use Rattle.checker_known.proofs.halves.edge.Given as goal

abbrev pub invariant-loop-from : goal.invariant-loop-from
invariant-loop-from l = Halved (passes l.test) (said_all l.held) l.first l.end l.from l.to

abbrev pub decreases-loop-from : goal.decreases-loop-from
decreases-loop-from l = l.to - l.from
