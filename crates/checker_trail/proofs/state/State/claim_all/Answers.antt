use Rattle.std.proofs.Common.{List, map, take}
use Rattle.checker_state.specs.declared.held.Claim.{Claim as KeptClaim}
use Rattle.checker_state.specs.Loops.{with_claim, with_claims}
use Rattle.checker_state.specs.View.{said_claim}
use Rattle.checker_trail.proofs.Ways.{moves-more}
use Rattle.checker_trail.proofs.Turns.{claims-append}
use Rattle.checker_trail.proofs.state.State.claim_all.Goals as goal

pub loop-claim-preserved : goal.loop-claim-preserved
loop-claim-preserved c =
    let claims = c.args.claims.now in
    let i = c.loop-claim.claim-index in
    let claim = c.claim-item.result in
    moves-more (λ (some : List KeptClaim). with_claims (map said_claim some)) (with_claim (said_claim claim)) claims i claim c.loop-claim-test.true
    c.claim-item.is c.loop-claim.invariant c.claim.ensures (claims-append (take i claims) claim)
