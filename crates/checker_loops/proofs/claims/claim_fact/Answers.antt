use Rattle.std.proofs.Common.{◌∙◌, List, ap, map, refl}
use Rattle.certificate.specs.Contents.{said_fact}
use Rattle.checker_state.specs.Loops.{with_claim, with_claims}
use Rattle.checker_state.specs.State.{Claim}
use Rattle.checker_state.specs.View.{said_claim}
use Rattle.checker_trail.specs.Trail.{seen}
use Rattle.checker_trail.proofs.Ways.{moves-as}
use Rattle.checker_loops.specs.Loops.{defined_of, said}
use Rattle.checker_loops.specs.View.{claim_at}
use Rattle.checker_loops.proofs.Stepped.{claims-row, moves-row, rows-begin, rows-whole, rows_to, said-by-rows}
use Rattle.checker_loops.proofs.claims.claim_fact.Goals as goal

pub loop-row-init : goal.loop-row-init
loop-row-init c =
    let claim = claim_at c.args.rows.now (said_fact c.args.fact.now) in
    rows-begin (λ rows. with_claims (map claim rows)) c.rows_said-span.result.first c.args.state.now (λ state. refl)

pub loop-row-preserved : goal.loop-row-preserved
loop-row-preserved c =
    let tree = c.args.rows.now in
    let fact = said_fact c.args.fact.now in
    let first = c.rows_said-span.result.first in
    let row = c.loop-row.row in
    let claim = said_claim c.claim_at.result in
    moves-row (λ rows. with_claims (map (claim_at tree fact) rows)) (with_claim claim) first row c.loop-row.auto.row c.loop-row.invariant c.claim.ensures
    (λ state. claims-row tree fact (rows_to first row) row claim state c.claim_at.ensures)

pub returns : goal.returns
returns c =
    let tree = c.args.rows.now in
    let fact = said_fact c.args.fact.now in
    let span = c.rows_said-span.result in
    moves-as (with_claims (said tree fact)) c.loop-row.invariant
    (ap (λ (claims : List Claim). with_claims claims (seen c.args.state.now))
    (ap (map (claim_at tree fact))
    (rows-whole span.first span.count c.loop-row.row c.end-row-end.result c.end-row-end.ensures c.loop-row.auto.row-end c.loop-row-test.false
    ∙ c.rows_said-span.ensures)
    ∙ said-by-rows (defined_of tree) tree fact))
