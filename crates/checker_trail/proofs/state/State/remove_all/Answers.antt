use Rattle.std.proofs.Common.{arith}
use Rattle.checker_trail.proofs.Steps.{without-begin, without-more}
use Rattle.checker_trail.proofs.state.State.remove_all.Goals as goal

pub loop-i-init : goal.loop-i-init
loop-i-init c = without-begin c.args.places.now c.args.self.now

pub loop-i-preserved : goal.loop-i-preserved
loop-i-preserved c =
    without-more c.args.places.now _ c.loop-i.i (omega (arith, c.loop-i-test.true)) (omega (arith, c.loop-i-test.true, c.loop-i.auto.i)) c.loop-i.invariant
    c.remove.ensures
