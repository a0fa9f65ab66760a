use Rattle.std.proofs.Common.{ap₂}
use Rattle.checker_state.specs.Values.{is_closed_member, tested_member, with_member}
use Rattle.checker_expressions.specs.Walk.{tested}
use Rattle.checker_expressions.proofs.Flows.{goes-as, goes-mapped}
use Rattle.checker_expressions.proofs.flow.Flow.member.Goals as goal

pub returns : goal.returns
returns c =
    let site = c.args.site in
    let hull = c.args.hull in
    goes-mapped (tested (is_closed_member c.args.range) site (tested_member c.args.range)) (with_member hull)
    (goes-as (ap₂ (λ closed passed. tested closed site passed) c.is_closed_member.ensures c.tested_member.ensures) c.test-passed.ensures)
    c.with_member.ensures
