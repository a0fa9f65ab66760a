use Rattle.std.proofs.Common.{arith}
use Rattle.checker_trail.proofs.Outside.{before-begin, before-more}
use Rattle.checker_trail.proofs.state.State.end_growths.Goals as goal

pub loop-row-init : goal.loop-row-init
loop-row-init c = before-begin c.args.depth c.args.self.now

pub loop-row-preserved : goal.loop-row-preserved
loop-row-preserved c =
    before-more c.args.depth c.loop-row.row (omega (arith, c.loop-row-test.true, c.len-row-end.ensures)) c.loop-row.invariant c.end_growth.ensures
