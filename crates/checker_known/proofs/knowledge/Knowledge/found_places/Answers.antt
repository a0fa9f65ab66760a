use Rattle.checker_known.proofs.HeldLists.{said_all}
use Rattle.checker_known.proofs.Finds.{found-whole, next-absent, next-present}
use Rattle.checker_known.proofs.knowledge.Knowledge.found_places.Goals as goal

pub loop-one-preserved-in_default : goal.loop-one-preserved-in_default
loop-one-preserved-in_default c =
    next-absent c.args.list.now c.loop-one.one-index _ (said_all c.args.self.now.held.items) c.loop-one.places.items c.loop-one-test.true
    c.loop-one.invariant c.in_default.ensures

pub loop-one-preserved : goal.loop-one-preserved
loop-one-preserved c =
    next-present c.args.list.now c.loop-one.one-index _ (said_all c.args.self.now.held.items) c.loop-one.places.items c.push.new.self.items
    c.in-Some.place c.loop-one-test.true c.loop-one.invariant c.in-Some.ensures c.in_ok-push.ensures.items

pub returns : goal.returns
returns c =
    found-whole c.args.list.now c.loop-one.one-index (said_all c.args.self.now.held.items) c.loop-one.places.items c.loop-one-test.false
    c.loop-one.invariant
