use Rattle.checker_known.specs.Knowledge.{core}
use Rattle.checker_state.specs.State.{table_of}
use Rattle.checker_known.proofs.Arrivals.{arrive-more}
use Rattle.checker_known.proofs.knowledge.Knowledge.arrive.Goals as goal

pub loop-change-preserved : goal.loop-change-preserved
loop-change-preserved c =
    arrive-more (table_of c.args.table.now) (core c.args.self.now) c.args.changes.now c.loop-change.change-index c.change-item.result
    c.args.rows.now.items c.loop-change.rows.items c.arrive_at.new.rows.items c.loop-change-test.true c.change-item.is
    c.loop-change.invariant c.in_ok-arrive_at.ensures
