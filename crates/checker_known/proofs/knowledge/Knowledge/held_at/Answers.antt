use Rattle.std.proofs.Common.{arith, List, ℕ, subst}
use Rattle.std.proofs.lemmas.List.{length-map, take_all}
use Rattle.checker_state.specs.View.{said_held}
use Rattle.checker_known.specs.Resting.{HasAllAt}
use Rattle.checker_known.proofs.HeldLists.{said_all}
use Rattle.checker_known.proofs.Finds.{all-at-past, next-held}
use Rattle.checker_known.proofs.knowledge.Knowledge.held_at.Goals as goal

pub loop-place-preserved-in_default : goal.loop-place-preserved-in_default
loop-place-preserved-in_default c =
    let held = c.args.self.now.held.items in
    all-at-past c.args.places.now c.loop-place.place-index (said_all held) (said_all c.loop-place.list.items) c.loop-place-test.true
    c.loop-place.invariant (omega (arith, c.in_default.ensures.lookup.3, c.deref.ensures.len, length-map held said_held))

pub loop-place-preserved : goal.loop-place-preserved
loop-place-preserved c =
    next-held c.args.places.now c.loop-place.place-index c.args.self.now.held.items c.deref.result.now c.loop-place.list.items c.push.new.self.items
    c.in-Some.one.now c.deref.ensures.value c.loop-place-test.true c.loop-place.invariant c.in-Some.ensures.lookup.3.0 c.in-Some.ensures.lookup.1
    c.in_ok-push.ensures.items

pub returns : goal.returns
returns c =
    subst (λ (all : List ℕ). HasAllAt all (said_all c.args.self.now.held.items) (said_all c.loop-place.list.items))
    (take_all c.loop-place.place-index c.args.places.now c.loop-place-test.false) c.loop-place.invariant
