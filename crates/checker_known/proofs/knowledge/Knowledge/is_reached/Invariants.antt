use Rattle.checker_known.specs.View.{reaches}
use Rattle.checker_known.proofs.InOrder.{NoneSoFar}
use Rattle.checker_known.proofs.knowledge.Knowledge.is_reached.Given as goal

abbrev pub invariant-loop-place : goal.invariant-loop-place
invariant-loop-place g l = NoneSoFar (reaches l.row (g.A.Ask.asks l.wanted)) l.self.held.items l.place
