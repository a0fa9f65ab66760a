use Rattle.std.proofs.Common.{◌≡◌, add-one, sym, ◌∙◌, ap, false, ℤ, List}
use Rattle.meaning.specs.Meaning.{is_among}
use Rattle.interpreter_state.proofs.FoundArms.{arm-later}
use Rattle.interpreter_state.proofs.arms.arm_at.Goals as goal

pub loop-place-preserved : goal.loop-place-preserved
loop-place-preserved c =
    let row = c.index-constants-place.result in
    let absent : is_among row.items c.args.index ≡ false =
    ap (λ (l : List ℤ). is_among l c.args.index) (sym c.deref.ensures.value) ∙ sym c.is_among.ensures ∙ c.if-is_among.false in
    rw add-one (arm-later c.loop-place.place c.args.constants.now c.args.arms.now c.args.index row c.loop-place-test.true c.index-constants-place.is absent
    ∙ c.loop-place.invariant)
