use Rattle.std.proofs.Common.{arith, refl, ◌∙◌, ap, subst, Contains, List, None}
use Rattle.checker_state.specs.State.{Held}
use Rattle.checker_state.specs.View.{said_held}
use Rattle.checker_known.proofs.HeldLists.{insert-said, said_all}
use Rattle.checker_known.proofs.Listed.{among-inserted, whole-more}
use Rattle.checker_known.proofs.InOrder.{Recounted, inserted-count, was-within}
use Rattle.checker_known.proofs.Tangles.{knots-inserted}
use Rattle.checker_known.proofs.knowledge.Knowledge.insert.Goals.{After-wrong_around}
use Rattle.checker_known.proofs.knowledge.Knowledge.insert.Goals as goal

recounted : (c : goal.After-wrong_around) → Recounted c.args.self.now.disorder c.wrong_at-was.result c.wrong_around.result c.insert.new.self.items
recounted c =
    inserted-count c.args.self.now.held.items c.insert.new.self.items c.deref.result.now c.deref-in-Ok.result.now c.min-place.result
    c.args.self.now.disorder c.wrong_at-was.result c.wrong_around.result c.args.self.now.counted
    (omega (arith, c.len.type_inv, c.len.ensures)) c.deref.ensures.value c.deref-in-Ok.ensures.value
    c.args.held (omega (arith, c.min-place.ensures, c.len.ensures)) c.in-Ok.ensures.items c.wrong_at-was.ensures c.wrong_around.ensures

pub overflow_add-self : goal.overflow_add-self
overflow_add-self c = (recounted c).fits

pub overflow_sub-self : goal.overflow_sub-self
overflow_sub-self c =
    was-within c.args.self.now.held.items c.deref.result.now c.min-place.result c.args.self.now.disorder c.wrong_at-was.result c.args.self.now.counted
    c.deref.ensures.value c.wrong_at-was.ensures

pub invariant_of-self : goal.invariant_of-self
invariant_of-self c =
    let known = c.args.self.now in
    record {
      growing_counted = c.args.self.now.growing_counted;
      counted = (recounted (goal.at.invariant_of-self c).After-wrong_around).count;
      knots_counted =
          knots-inserted known.held.items c.insert.new.self.items c.deref-2.result.now c.deref-in-Ok-2.result.now c.min-place.result known.knots.items
          c.recount.new.knots.items (c.knot_at.result, None) c.knots_around.result known.knots_counted (omega (arith, c.len.type_inv, c.len.ensures))
          c.deref-2.ensures.value c.deref-in-Ok-2.ensures.value c.recount.ensures c.args.held (omega (arith, c.min-place.ensures, c.len.ensures))
          c.in-Ok.ensures.items c.knot_at.ensures refl c.knots_around.ensures.first c.knots_around.ensures.next;
      all_listed =
          whole-more (said_held c.args.held) (said_all known.held.items) (said_all c.insert.new.self.items) known.resting c.list.new.self
          known.all_listed c.list.ensures.lists
          (λ other has.
          among-inserted (said_all known.held.items) c.min-place.result (said_held c.args.held) other
          (subst (λ (all : List Held). Contains all other)
          (ap said_all c.in-Ok.ensures.items ∙ insert-said known.held.items c.min-place.result c.args.held) has));
    }
