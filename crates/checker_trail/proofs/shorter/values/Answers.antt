use Rattle.checker_known.specs.Knowledge.{core, viewed}
use Rattle.checker_trail.proofs.ShorterWays.{values-more}
use Rattle.checker_trail.proofs.shorter.values.Goals as goal

pub loop-change-preserved : goal.loop-change-preserved
loop-change-preserved c =
    values-more (viewed (core c.args.known.now)) c.args.changes.now c.loop-change.change-index c.change-item.result c.loop-change.found.items
    c.value.new.found.items c.loop-change-test.true c.change-item.is c.loop-change.invariant c.in_ok-value.ensures
