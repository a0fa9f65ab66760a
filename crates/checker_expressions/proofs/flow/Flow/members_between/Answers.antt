use Rattle.std.proofs.Common.{ap}
use Rattle.checker_state.specs.Values.{is_closed_range, with_members}
use Rattle.checker_expressions.specs.Walk.{checked}
use Rattle.checker_expressions.proofs.Flows.{goes-as, goes-mapped}
use Rattle.checker_expressions.proofs.flow.Flow.members_between.Goals as goal

pub returns : goal.returns
returns c =
    let site = c.args.site in
    let first = c.args.first in
    let last = c.args.last in
    goes-mapped (checked (is_closed_range first last) site) (λ _. with_members c.args.hull first last)
    (goes-as (ap (λ closed. checked closed site) c.is_closed_range.ensures) c.check.ensures) c.with_members.ensures
