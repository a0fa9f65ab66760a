use Rattle.std.proofs.Common.{ap, refl}
use Rattle.checker_expressions.specs.Walk.{◌>>=◌, give, positive}
use Rattle.checker_expressions.proofs.Flows.{goes-as, goes-mapped}
use Rattle.checker_expressions.proofs.flow.Flow.width_test.Goals as goal

pub returns : goal.returns
returns c =
    let site = c.args.site in
    let range = c.range-range.result in
    goes-as (ap (λ r. positive site r >>= λ _. give tt) c.range-range.ensures) (goes-mapped (positive site range) (λ _. tt) c.positive.ensures refl)
