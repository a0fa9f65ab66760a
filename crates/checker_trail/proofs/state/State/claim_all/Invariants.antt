use Rattle.std.proofs.Common.{map, take}
use Rattle.checker_state.specs.View.{said_claim}
use Rattle.checker_state.specs.Loops.{with_claims}
use Rattle.checker_trail.specs.Trail.{Moves}
use Rattle.checker_trail.proofs.state.State.claim_all.Given as goal

abbrev pub invariant-loop-claim : goal.invariant-loop-claim
invariant-loop-claim l = Moves (with_claims (map said_claim (take l.claim-index l.claims))) l.fn.self l.self
