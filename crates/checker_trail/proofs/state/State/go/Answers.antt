use Rattle.checker_trail.proofs.Ways.{made-next}
use Rattle.checker_trail.proofs.state.State.go.Goals as goal

pub loop-change-preserved : goal.loop-change-preserved
loop-change-preserved c =
    made-next c.args.branch.now.changes.items c.deref-change-items.result.now c.loop-change.change-index c.change-item.result
    c.deref-change-items.ensures.value c.loop-change-test.true c.change-item.is c.loop-change.invariant c.make.ensures
