use Rattle.std.proofs.Common.{◌≡◌, ◌∙◌, false, nat_eq, get_or, rules}
use Rattle.checker_expressions.proofs.TouchedParts.{told-other}
use Rattle.checker_expressions.proofs.touching.root_told.Goals as goal

pub loop-i-preserved : goal.loop-i-preserved
loop-i-preserved c =
    let roots = c.args.parameters.now in
    let other : nat_eq (get_or roots c.loop-i.i 0) c.args.root ≡ false = search rules in
    told-other roots c.args.actuals.now c.loop-i.i c.args.root c.loop-i-test.true other ∙ c.loop-i.invariant
