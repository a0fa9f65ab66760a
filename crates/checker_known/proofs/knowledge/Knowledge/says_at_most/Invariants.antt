use Rattle.checker_state.specs.State.{says_at_most}
use Rattle.checker_state.specs.View.{said_term}
use Rattle.checker_known.proofs.InOrder.{NoneSoFar}
use Rattle.checker_known.proofs.knowledge.Knowledge.says_at_most.Given as goal

abbrev pub invariant-loop-place : goal.invariant-loop-place
invariant-loop-place l = NoneSoFar (says_at_most (said_term l.left) (said_term l.right)) l.self.held.items l.place
