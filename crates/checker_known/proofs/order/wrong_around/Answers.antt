use Rattle.checker_known.proofs.HeldLists.{said_all}
use Rattle.checker_known.proofs.InOrder.{around-fits, wrong-neither}
use Rattle.checker_known.proofs.order.wrong_around.Goals as goal

pub returns-then-place-held : goal.returns-then-place-held
returns-then-place-held c = wrong-neither c.args.place c.args.held.now c.if-place-held.true

pub overflow_add-result : goal.overflow_add-result
overflow_add-result c =
    around-fits c.args.place (said_all c.args.held.now) c.wrong_at.result c.wrong_at-2.result c.wrong_at.ensures c.wrong_at-2.ensures
