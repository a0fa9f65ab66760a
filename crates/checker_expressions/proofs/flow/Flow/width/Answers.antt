use Rattle.std.proofs.Common.{ap, sym}
use Rattle.checker_expressions.specs.Walk.{value_walk, width_test, width_walk}
use Rattle.checker_expressions.proofs.Flows.{goes-as, goes-then}
use Rattle.checker_expressions.proofs.flow.Flow.width.Goals as goal

pub returns-in-Some-clause-goes : goal.returns-in-Some-clause-goes
returns-in-Some-clause-goes g c =
    let width = c.in-Some.width in
    goes-as (sym (ap width_walk c.in-Some.is))
    (goes-then (value_walk width.value) (width_test width.site) c.expression-known.ensures.goes c.width_test.ensures)
