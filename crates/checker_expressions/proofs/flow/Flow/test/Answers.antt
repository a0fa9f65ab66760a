use Rattle.std.proofs.Common.{refl}
use Rattle.checker_state.specs.State.{unless_empty}
use Rattle.checker_expressions.specs.Walk.{tested}
use Rattle.checker_expressions.proofs.Flows.{goes-checked}
use Rattle.checker_expressions.proofs.flow.Flow.test.Goals as goal

pub returns : goal.returns
returns c =
    let passed = c.args.passed in
    goes-checked (tested c.args.closed c.args.site passed) c.args.closed c.args.site (unless_empty passed) passed (λ claims. refl) c.check.ensures
    c.unless_empty.ensures
