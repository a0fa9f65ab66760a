use Rattle.std.proofs.Common.{◌∙◌, [], sym}
use Rattle.checker_state.specs.State.{with_more}
use Rattle.checker_state.specs.View.{said_held}
use Rattle.checker_known.proofs.HeldLists.{said_all}
use Rattle.checker_state.proofs.HeldOrders.{no_held}
use Rattle.checker_known.proofs.Kept.{same-anew}
use Rattle.checker_trail.proofs.Steps.{held-stays}
use Rattle.checker_trail.proofs.Turns.{anew-moves}
use Rattle.checker_trail.proofs.state.State.order_anew.Goals as goal

pub returns-then-self-eq0 : goal.returns-then-self-eq0
returns-then-self-eq0 c =
    let held = said_all c.args.self.now.known.held.items in
    held-stays (λ held. with_more held []) c.args.self.now (same-anew (said_held no_held) held (sym c.args.self.now.known.counted ∙ c.if-self-eq0.true))

pub returns-in-Ok : goal.returns-in-Ok
returns-in-Ok c =
    anew-moves c.deref-in-Ok.result.now (c.deref-in-Ok.ensures.value ∙ c.in-Ok.ensures.items ∙ c.deref.ensures.value)
    c.retain_none.ensures c.hold_all.ensures
