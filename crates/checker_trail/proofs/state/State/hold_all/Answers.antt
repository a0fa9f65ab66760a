use Rattle.checker_trail.proofs.Steps.{hold-more}
use Rattle.checker_trail.proofs.state.State.hold_all.Goals as goal

pub loop-held-preserved : goal.loop-held-preserved
loop-held-preserved c = hold-more c.args.more.now c.loop-held.held-index c.loop-held-test.true c.loop-held.invariant c.hold.ensures
