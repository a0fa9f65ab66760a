use Rattle.checker_state.specs.View.{said_held}
use Rattle.checker_known.proofs.HeldLists.{ComesBehind, said_all}
use Rattle.checker_known.proofs.knowledge.Knowledge.place.Given as goal

abbrev pub invariant-loop-place : goal.invariant-loop-place
invariant-loop-place l = ComesBehind (said_held l.one) (said_all l.self.held.items) l.place
