use Rattle.domain.specs.Interval.{common}
use Rattle.domain.specs.Numbers.{hull, is_covered}
use Rattle.checker_loops.specs.Cases.{constants_before}
use Rattle.cert_checker.proofs.Steps.{goes-tested}
use Rattle.cert_checker.proofs.walk.Walk.test_index.Goals as goal

pub returns-in-Ok : goal.returns-in-Ok
returns-in-Ok c =
    let constants = constants_before c.args.arms c.args.head.now.constants.items in
    goes-tested (is_covered c.args.range constants) c.in-Ok.tested.is_closed c.args.head.now.site (common c.args.range (hull constants))
    c.in-Ok.tested.passed c.in-Ok.ensures.closed c.in-Ok.ensures.passed c.test.ensures
