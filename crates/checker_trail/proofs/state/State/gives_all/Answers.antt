use Rattle.std.proofs.Common.{◌∙◌, sym, ap}
use Rattle.std.proofs.lemmas.List.Folds.{list_all-map, list_all_at}
use Rattle.checker_state.specs.declared.held.Claim.{Claim as KeptClaim}
use Rattle.checker_state.specs.State.{state_gives}
use Rattle.checker_trail.specs.Trail.{seen}
use Rattle.checker_state.specs.View.{said_claim}
use Rattle.checker_state.specs.State.{table_of}
use Rattle.checker_trail.proofs.state.State.gives_all.Goals as goal

pub returns-then-not-gives : goal.returns-then-not-gives
returns-then-not-gives c =
    let claims = c.args.claims.now in
    let test = state_gives (table_of c.args.self.now.table.now) (seen c.args.self.now) in
    sym (list_all-map test said_claim claims
    ∙ list_all_at (λ claim. test (said_claim claim)) claims c.loop-claim.claim-index c.claim-item.result c.loop-claim-test.true
    (ap (λ (claim : KeptClaim). test (said_claim claim)) (sym c.claim-item.is) ∙ sym c.gives.ensures ∙ c.if-not-gives.true))
