use Rattle.std.proofs.Common.{◌≡◌, false, nat_eq, get_or, rules}
use Rattle.checker_calls.proofs.Bound.{actual-next}
use Rattle.checker_calls.proofs.actuals.Bindings.actual.Goals as goal

pub loop-i-preserved : goal.loop-i-preserved
loop-i-preserved c =
    let roots = c.args.self.now.roots.now in
    let other : nat_eq (get_or roots c.loop-i.i 0) c.args.root ≡ false = search rules in
    actual-next roots c.args.self.now.actuals.now c.loop-i.i c.args.root _ c.loop-i-test.true other c.loop-i.invariant
