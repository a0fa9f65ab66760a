use Rattle.std.proofs.Common.{◌∙◌, sym}
use Rattle.checker_state.specs.State.{gives}
use Rattle.checker_known.specs.Knowledge.{core, viewed}
use Rattle.checker_state.specs.State.{table_of}
use Rattle.checker_known.proofs.Arrivals.{given-more, given-same}
use Rattle.checker_known.proofs.knowledge.Knowledge.given.Goals as goal

pub loop-held-preserved-then-not-gives : goal.loop-held-preserved-then-not-gives
loop-held-preserved-then-not-gives c =
    given-same (gives (table_of c.args.table.now) (viewed (core c.args.self.now))) c.args.asked.now c.loop-held.held-index c.loop-held-test.true
    c.loop-held.found.items c.loop-held.invariant (sym c.gives.ensures ∙ c.if-not-gives.true)

pub loop-held-preserved : goal.loop-held-preserved
loop-held-preserved c =
    given-more (gives (table_of c.args.table.now) (viewed (core c.args.self.now))) c.args.asked.now c.loop-held.held-index c.loop-held-test.true
    c.loop-held.found.items c.push.new.self.items c.loop-held.invariant c.in_ok-push.ensures.items (sym c.gives.ensures ∙ c.if-not-gives.false)
