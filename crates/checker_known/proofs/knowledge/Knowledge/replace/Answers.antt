use Rattle.std.proofs.Common.{arith, refl, set, subst, Contains, List}
use Rattle.std.proofs.lemmas.List.{length-map, map-set}
use Rattle.checker_state.specs.State.{Held}
use Rattle.checker_state.specs.View.{said_held}
use Rattle.checker_known.proofs.HeldLists.{said_all}
use Rattle.checker_known.proofs.Listed.{among-set, whole-more}
use Rattle.checker_known.proofs.InOrder.{Recounted, set-counted, were-within}
use Rattle.checker_known.proofs.Tangles.{knots-set}
use Rattle.checker_known.proofs.knowledge.Knowledge.replace.Goals.{After-wrong_around}
use Rattle.checker_known.proofs.knowledge.Knowledge.replace.Goals as goal

pub overflow_sub-self : goal.overflow_sub-self
overflow_sub-self c =
    were-within c.args.self.now.held.items c.deref.result.now c.args.place c.args.self.now.disorder c.wrong_around-was.result c.args.self.now.counted
    c.deref.ensures.value c.wrong_around-was.ensures

recounted : (c : goal.After-wrong_around)
    → Recounted c.args.self.now.disorder c.wrong_around-was.result c.wrong_around.result (set c.args.self.now.held.items c.args.place c.args.now)
recounted c =
    let held = c.args.self.now.held.items in
    set-counted held (set held c.args.place c.args.now) c.deref.result.now c.deref-then-place-len-2.result.now c.args.place
    c.args.self.now.disorder c.wrong_around-was.result c.wrong_around.result c.args.self.now.counted
    (omega (arith, c.len.type_inv, c.len.ensures)) c.deref.ensures.value c.deref-then-place-len-2.ensures.value
    c.args.now (omega (arith, c.if-place-len.true, c.len.ensures)) refl c.wrong_around-was.ensures c.wrong_around.ensures

pub overflow_add-self : goal.overflow_add-self
overflow_add-self c = (recounted c).fits

pub invariant_of-self : goal.invariant_of-self
invariant_of-self c =
    let known = c.args.self.now in
    record {
      growing_counted = c.args.self.now.growing_counted;
      counted = (recounted (goal.at.invariant_of-self c).After-wrong_around).count;
      knots_counted =
          knots-set known.held.items (set known.held.items c.args.place c.args.now) c.deref-then-place-len.result.now c.deref-then-place-len-3.result.now
          c.args.place known.knots.items c.recount.new.knots.items c.knots_around-gone.result c.knots_around.result known.knots_counted
          (omega (arith, c.len.type_inv, c.len.ensures)) c.deref-then-place-len.ensures.value c.deref-then-place-len-3.ensures.value c.recount.ensures
          c.args.now (omega (arith, c.if-place-len.true, c.len.ensures)) refl c.knots_around-gone.ensures.first c.knots_around-gone.ensures.next
          c.knots_around.ensures.first c.knots_around.ensures.next;
      all_listed =
          whole-more (said_held c.args.now) (said_all known.held.items) (said_all (set known.held.items c.args.place c.args.now)) known.resting
          c.list.new.self known.all_listed c.list.ensures.lists
          (λ other has.
          among-set (said_all known.held.items) c.args.place (said_held c.args.now) other
          (rw length-map (omega (arith, c.if-place-len.true, c.len.ensures)))
          (subst (λ (all : List Held). Contains all other) (map-set said_held known.held.items c.args.place c.args.now) has));
    }
