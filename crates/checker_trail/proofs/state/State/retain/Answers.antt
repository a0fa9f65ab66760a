use Rattle.std.proofs.Common.{arith}
use Rattle.checker_trail.proofs.Steps.{dropped-more, kept-begin, kept-more}
use Rattle.checker_trail.proofs.state.State.retain.Goals as goal

pub loop-place-init : goal.loop-place-init
loop-place-init c = kept-begin c.args.kept.now c.args.self.now

pub loop-place-preserved : goal.loop-place-preserved
loop-place-preserved c =
    kept-more c.args.kept.now _ c.loop-place.place (omega (arith, c.loop-place-test.true)) (omega (arith, c.loop-place-test.true, c.loop-place.auto.place))
    c.if-not-kept-place.false c.loop-place.invariant

pub loop-place-preserved-then-not-kept-place : goal.loop-place-preserved-then-not-kept-place
loop-place-preserved-then-not-kept-place c =
    dropped-more c.args.kept.now _ c.loop-place.place (omega (arith, c.loop-place-test.true)) (omega (arith, c.loop-place-test.true, c.loop-place.auto.place))
    c.if-not-kept-place.true c.loop-place.invariant c.remove.ensures
