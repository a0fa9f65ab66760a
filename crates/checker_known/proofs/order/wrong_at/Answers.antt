use Rattle.std.proofs.Common.{arith, ◌∙◌, ap, sym}
use Rattle.checker_known.specs.Order.{wrong}
use Rattle.checker_known.proofs.HeldLists.{said_all}
use Rattle.checker_known.proofs.InOrder.{wrong-beside, wrong-first, wrong-none, wrong-not}
use Rattle.checker_known.proofs.order.wrong_at.Goals as goal

pub returns-then-place-eq0 : goal.returns-then-place-eq0
returns-then-place-eq0 c = wrong-first c.args.place (said_all c.args.held.now) c.if-place-eq0.true

pub returns-then-place-held : goal.returns-then-place-held
returns-then-place-held c = wrong-none c.args.place c.args.held.now c.if-place-held.true

pub returns-in-Less : goal.returns-in-Less
returns-in-Less c =
    sym (ap wrong c.in-Less.is)
    ∙ wrong-beside c.args.held.now c.args.place _ _ c.compare.result c.if-place-eq0.false (omega (arith, c.if-place-held.false)) c.compare.ensures

pub returns-in_default : goal.returns-in_default
returns-in_default c =
    wrong-not c.compare.result c.in_default.not-Less
    ∙ wrong-beside c.args.held.now c.args.place _ _ c.compare.result c.if-place-eq0.false (omega (arith, c.if-place-held.false)) c.compare.ensures
