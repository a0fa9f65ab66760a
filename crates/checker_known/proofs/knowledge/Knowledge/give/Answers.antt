use Rattle.checker_state.specs.State.{gives, table_of}
use Rattle.checker_known.specs.Knowledge.{core, viewed}
use Rattle.checker_known.proofs.Arrivals.{tests-more}
use Rattle.checker_known.proofs.knowledge.Knowledge.give.Goals as goal

pub loop-one-preserved : goal.loop-one-preserved
loop-one-preserved c =
    tests-more (gives (table_of c.args.table.now) (viewed (core c.args.self.now))) c.args.asked.now c.loop-one.one-index c.loop-one.kept.items
    c.push.new.self.items c.keeps.result c.loop-one-test.true c.loop-one.invariant c.in_ok-push.ensures.items c.keeps.ensures
