use Rattle.std.proofs.Common.{arith}
use Rattle.checker_trail.proofs.Steps.{taken-begin, taken-more}
use Rattle.checker_trail.proofs.state.State.retain_none.Goals as goal

pub loop-place-init : goal.loop-place-init
loop-place-init c = taken-begin c.len-place.result c.args.self.now (omega (arith, c.len-place.ensures))

pub loop-place-preserved : goal.loop-place-preserved
loop-place-preserved c = taken-more _ c.loop-place.place (omega (arith, c.loop-place-test.true)) c.loop-place.invariant c.remove.ensures
