use Rattle.std.proofs.Common.{◌∙◌, ap}
use Rattle.domain.specs.Interval.{common}
use Rattle.checker_calls.proofs.KnownRanges.{more-met}
use Rattle.checker_calls.proofs.exit_claims.know_rows.Goals as goal

pub loop-row-preserved : goal.loop-row-preserved
loop-row-preserved c =
    let range = c.args.range.now in
    more-met c.args.rows.now c.args.span.first c.loop-row.row range c.meet-both.result c.args.known.now c.loop-row.known c.set.new.self c.loop-row.auto.row
    c.loop-row.invariant (c.meet-both.ensures.answer ∙ ap (λ known. common known range) c.known_at.ensures) c.in_ok-set.ensures
