use Rattle.std.proofs.Common.{arith, refl, ◌∙◌, ap, subst, Contains, List, None}
use Rattle.checker_state.specs.State.{Held}
use Rattle.checker_known.proofs.HeldLists.{remove-said, said_all}
use Rattle.checker_known.proofs.Listed.{among-removed, whole-less}
use Rattle.checker_known.proofs.InOrder.{Recounted, removed-count, were-within}
use Rattle.checker_known.proofs.Tangles.{knots-removed}
use Rattle.checker_known.proofs.knowledge.Knowledge.remove.Goals.{After-wrong_at}
use Rattle.checker_known.proofs.knowledge.Knowledge.remove.Goals as goal

pub overflow_sub-self : goal.overflow_sub-self
overflow_sub-self c =
    were-within c.args.self.now.held.items c.deref.result.now c.args.place c.args.self.now.disorder c.wrong_around-was.result c.args.self.now.counted
    c.deref.ensures.value c.wrong_around-was.ensures

recounted : (c : goal.After-wrong_at) → Recounted c.args.self.now.disorder c.wrong_around-was.result c.wrong_at.result c.remove.new.self.items
recounted c =
    removed-count c.args.self.now.held.items c.remove.new.self.items c.deref.result.now c.deref-then-place-len-2.result.now c.args.place
    c.args.self.now.disorder c.wrong_around-was.result c.wrong_at.result c.args.self.now.counted
    (omega (arith, c.len.type_inv, c.len.ensures)) c.deref.ensures.value c.deref-then-place-len-2.ensures.value
    (omega (arith, c.if-place-len.true, c.len.ensures)) c.remove.ensures.items c.wrong_around-was.ensures c.wrong_at.ensures

pub overflow_add-self : goal.overflow_add-self
overflow_add-self c = (recounted c).fits

pub invariant_of-self : goal.invariant_of-self
invariant_of-self c =
    let known = c.args.self.now in
    record {
      growing_counted = c.args.self.now.growing_counted;
      counted = (recounted (goal.at.invariant_of-self c).After-wrong_at).count;
      knots_counted =
          knots-removed known.held.items c.remove.new.self.items c.deref-then-place-len.result.now c.deref-then-place-len-3.result.now c.args.place
          known.knots.items c.recount.new.knots.items c.knots_around-gone.result (c.knot_at.result, None) known.knots_counted
          (omega (arith, c.len.type_inv, c.len.ensures)) c.deref-then-place-len.ensures.value c.deref-then-place-len-3.ensures.value c.recount.ensures
          (omega (arith, c.if-place-len.true, c.len.ensures)) c.remove.ensures.items c.knots_around-gone.ensures.first c.knots_around-gone.ensures.next
          c.knot_at.ensures refl;
      all_listed =
          whole-less (said_all known.held.items) (said_all c.remove.new.self.items) known.resting known.all_listed
          (λ other has.
          among-removed (said_all known.held.items) c.args.place other
          (subst (λ (all : List Held). Contains all other) (ap said_all c.remove.ensures.items ∙ remove-said known.held.items c.args.place) has));
    }
