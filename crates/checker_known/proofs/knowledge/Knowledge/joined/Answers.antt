use Rattle.checker_known.specs.Knowledge.{core, viewed}
use Rattle.checker_state.specs.State.{table_of}
use Rattle.checker_known.proofs.Arrivals.{joined-more}
use Rattle.checker_known.proofs.knowledge.Knowledge.joined.Goals as goal

pub loop-other-preserved : goal.loop-other-preserved
loop-other-preserved c =
    joined-more (table_of c.args.table.now) (viewed (core c.args.self.now)) c.args.rows.now c.loop-other.other-index c.other-item.result
    c.loop-other.found.items c.push.new.self.items c.joined_row.result c.loop-other-test.true c.other-item.is c.loop-other.invariant
    c.in_ok-push.ensures.items c.joined_row.ensures
