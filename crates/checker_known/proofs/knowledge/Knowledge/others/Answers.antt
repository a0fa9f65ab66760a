use Rattle.std.proofs.Common.{◌∙◌, refl, sym}
use Rattle.checker_state.specs.View.{said_held}
use Rattle.checker_known.specs.Knowledge.{kept_by}
use Rattle.checker_known.proofs.HeldLists.{said_all}
use Rattle.checker_state.proofs.HeldOrders.{no_held}
use Rattle.checker_known.proofs.Kept.{others-more, others-same}
use Rattle.checker_known.proofs.knowledge.Knowledge.others.Goals as goal

pub loop-one-preserved-then-stays : goal.loop-one-preserved-then-stays
loop-one-preserved-then-stays c =
    let asked = c.args.asked.now.held.items in
    others-same (kept_by c.args.kept.now (said_all asked)) c.args.self.now.held.items c.deref-one-items.result.now c.loop-one.one-index
    c.deref-one-items.ensures.value c.loop-one-test.true c.loop-one.found.items c.loop-one.invariant (said_held no_held) c.args.kept.now asked refl
    (sym c.args.asked.now.counted ∙ c.if-stays.ensures.order) c.if-stays.ensures.there

pub loop-one-preserved : goal.loop-one-preserved
loop-one-preserved c =
    others-more (kept_by c.args.kept.now (said_all c.args.asked.now.held.items)) c.args.self.now.held.items c.deref-one-items.result.now
    c.loop-one.one-index c.deref-one-items.ensures.value c.loop-one-test.true c.loop-one.found.items c.loop-one.invariant
    c.push.new.self.items c.in_ok-push.ensures.items
