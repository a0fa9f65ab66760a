use Rattle.std.proofs.Common.{◌∷◌, ◌++◌, [], map, sym, ap, ◌∙◌}
use Rattle.std.specs.Prelude.{filter}
use Rattle.std.proofs.lemmas.List.{take_all}
use Rattle.check_remover.specs.Strip.{is_among, moved, stays}
use Rattle.check_remover.specs.Places.{new_place}
use Rattle.check_remover.proofs.Moves.{kept_more, left_out}
use Rattle.check_remover.proofs.remove.kept.Goals as goal
use Rattle.check_remover.proofs.remove.kept.Goals.{then-keep+in_ok-push, else-keep}

pub loop-instr-preserved : goal.loop-instr-preserved
loop-instr-preserved c =
    let rest = c.loop-instr.rest.items in
    let asked = ap (stays (is_among c.args.open_sites.now)) (sym c.instr-item.is) ∙ sym c.keep.ensures in
    elim c.if-keep.branch [
      | then-keep+in_ok-push w ↦
          kept_more _ _ c.args.code.now rest _ c.loop-instr.instr-index _ c.loop-instr-test.true c.loop-instr.invariant
          (asked ∙ w.if-keep.true)
          (ap (λ v. v.items) w.rest-is ∙ w.in_ok-push.ensures.items
          ∙ ap (λ i. rest ++ i ∷ []) (w.with_moved_jump.ensures ∙ ap (moved (new_place c.args.places.now)) c.instr-item.is))
      | else-keep w ↦
          left_out _ _ c.args.code.now rest _ c.loop-instr.instr-index _ c.loop-instr-test.true c.loop-instr.invariant
          (asked ∙ w.if-keep.false) (ap (λ v. v.items) w.rest-is)
    ]

pub loop-instr-init : goal.loop-instr-init
loop-instr-init c = c.in_ok-rest.ensures.items

pub returns : goal.returns
returns c =
    c.loop-instr.invariant
    ∙ ap (λ l. map (moved (new_place c.args.places.now)) (filter (stays (is_among c.args.open_sites.now)) l))
    (take_all c.loop-instr.instr-index c.args.code.now c.loop-instr-test.false)
