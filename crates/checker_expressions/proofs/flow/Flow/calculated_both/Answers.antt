use Rattle.std.proofs.Common.{sym}
use Rattle.checker_state.specs.Values.{known_range}
use Rattle.checker_expressions.specs.Walk.{divides}
use Rattle.checker_expressions.proofs.Flows.{goes-as, goes-then}
use Rattle.checker_expressions.proofs.Held.{behind, both-goes, calculated_both-as}
use Rattle.checker_expressions.proofs.flow.Flow.calculated_both.Goals as goal

pub returns : goal.returns
returns c =
    let operation = c.args.operation in
    let left = c.range-left.result in
    let right = c.range.result in
    goes-as (sym (calculated_both-as operation (known_range c.args.left) (known_range c.args.right) left right c.range-left.ensures c.range.ensures))
    (goes-then (divides operation right) (behind operation left) c.divides-passed.ensures
    (both-goes operation left c.divides-passed.result c.of_both.result c.overflow_of_both.ensures c.of_both.ensures c.unless_overflow.ensures))
