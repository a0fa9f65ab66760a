use Rattle.checker_rows.specs.Limits.{row_limits}
use Rattle.checker_rows.specs.Rows.{rows_of}
use Rattle.checker_calls.specs.ExitView.{known_at}
use Rattle.checker_calls.proofs.KnownRanges.{exit-more}
use Rattle.checker_calls.proofs.exit_claims.ExitClaims.of.Goals as goal

pub loop-fact-preserved : goal.loop-fact-preserved
loop-fact-preserved c = λ row.
    let tree = c.args.rows.now in
    exit-more tree row c.args.facts.now c.loop-fact.fact-index c.fact-item.result (row_limits (rows_of tree) row) (known_at tree c.loop-fact.known row)
    (known_at tree c.know.new.known row) c.loop-fact-test.true c.fact-item.is (c.loop-fact.invariant row) (c.in_ok-know.ensures row)
