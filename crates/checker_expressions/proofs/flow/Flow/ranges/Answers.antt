use Rattle.std.proofs.Common.{ap}
use Rattle.checker_rows.specs.View.{numbers}
use Rattle.checker_expressions.specs.View.{context_of, state_of}
use Rattle.checker_expressions.specs.Walk.{give, ranges_of}
use Rattle.checker_expressions.proofs.Flows.{goes-alike, goes-give, goes-short}
use Rattle.checker_expressions.proofs.flow.Flow.ranges.Goals as goal

pub returns-in-Ok : goal.returns-in-Ok
returns-in-Ok c =
    let old = c.args.self.now in
    let rows = numbers c.args.span in
    goes-alike (give c.in-Ok.ranges.items) (λ context state. give (ranges_of state rows) context state)
    (λ claims. ap (λ ranges. give ranges (context_of old claims) (state_of old)) c.in-Ok.ensures) (goes-give c.in-Ok.ranges.items old)

pub returns-in-Err : goal.returns-in-Err
returns-in-Err c =
    goes-short (λ context state. give (ranges_of state (numbers c.args.span)) context state) c.args.self.now c.no_ranges.new.self
    c.no_ranges.result.items c.no_ranges.ensures
