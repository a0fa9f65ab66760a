use Rattle.std.proofs.Common.{arith}
use Rattle.checker_state.specs.View.{held_by}
use Rattle.checker_trail.proofs.Steps.{changed-begin, changed-more}
use Rattle.checker_trail.proofs.state.State.rebind_all.Goals as goal

pub loop-place-init : goal.loop-place-init
loop-place-init c = changed-begin (held_by c.args.how) c.len-place.result c.args.self.now (omega (arith, c.len-place.ensures))

pub loop-place-preserved : goal.loop-place-preserved
loop-place-preserved c =
    changed-more (held_by c.args.how) _ c.loop-place.place (omega (arith, c.loop-place-test.true)) c.loop-place.invariant c.rebind_at.ensures
