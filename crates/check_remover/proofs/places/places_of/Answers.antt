use Rattle.std.proofs.Common.{◌≡◌, ◌+◌, length, refl, sym, ap, ◌∙◌, arith}
use Rattle.std.proofs.lemmas.List.Sums.{count_by_more_yes, count_by_more_no}
use Rattle.check_remover.specs.Strip.{is_among, stays, moved_place}
use Rattle.check_remover.proofs.Moves.{moved_place-le, one_place_more, one_longer}
use Rattle.check_remover.proofs.places.places_of.Goals as goal
use Rattle.check_remover.proofs.places.places_of.Goals.{then-keep, else-keep}

pub loop-instr-init : goal.loop-instr-init
loop-instr-init c = (ap length c.in_ok-places.ensures.items, λ place less. absurd (omega arith), refl)

-- one place more
pub loop-instr-preserved : goal.loop-instr-preserved
loop-instr-preserved c =
    let test = is_among c.args.sites.now in
    let code = c.args.code.now in
    let i = c.loop-instr.instr-index in
    let so_far = c.loop-instr.invariant in
    let next = c.in_ok-push.ensures.items in
    let asked = ap (stays test) (sym c.instr-item.is) ∙ sym c.keep.ensures in
    let kept : c.if-keep.kept ≡ moved_place test code (i + 1) =
    elim c.if-keep.branch [
      | then-keep w ↦ w.kept-is ∙ ap (λ n. n + 1) so_far.2 ∙ sym
          (count_by_more_yes (stays test) code i _ c.loop-instr-test.true (asked ∙ w.if-keep.true))
      | else-keep w ↦ w.kept-is ∙ so_far.2 ∙ sym (count_by_more_no (stays test) code i _ c.loop-instr-test.true (asked ∙ w.if-keep.false))
    ] in (
      one_longer c.loop-instr.places.items c.push.new.self.items c.loop-instr.kept i next so_far.0,
      one_place_more (moved_place test code) c.loop-instr.places.items c.push.new.self.items c.loop-instr.kept i next so_far.0 so_far.1 so_far.2,
      kept,
    )

-- and that past the end
pub returns : goal.returns
returns c =
    let to = moved_place (is_among c.args.sites.now) c.args.code.now in
    let i = c.loop-instr.instr-index in
    let so_far = c.loop-instr.invariant in
    let next = c.in_ok-push-2.ensures.items in
    let end : i ≡ length c.args.code.now = omega (arith, c.loop-instr-test.false, c.loop-instr.auto.instr-index-end) in
    record {
      count = one_longer c.loop-instr.places.items c.push-2.new.self.items c.loop-instr.kept i next so_far.0 ∙ ap (λ n. n + 1) end;
      each = λ place within. one_place_more to c.loop-instr.places.items c.push-2.new.self.items c.loop-instr.kept i next so_far.0 so_far.1 so_far.2 place
          (omega (arith, end));
    }

-- the number of those that stay is within that of all
pub overflow_add-kept : goal.overflow_add-kept
overflow_add-kept c =
    let few = moved_place-le (is_among c.args.sites.now) c.args.code.now c.loop-instr.instr-index in
    omega (arith, few, c.loop-instr.invariant.2, c.loop-instr-test.true)
