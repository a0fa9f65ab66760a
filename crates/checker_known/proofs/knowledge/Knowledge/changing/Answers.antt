use Rattle.std.proofs.Common.{arith, ◌∙◌, ap, subst, List}
use Rattle.checker_state.specs.State.{Held}
use Rattle.checker_known.specs.Resting.{HaveAll}
use Rattle.checker_known.proofs.HeldLists.{said_all}
use Rattle.checker_known.proofs.Listed.{listed-there}
use Rattle.checker_known.proofs.Finds.{changing-at}
use Rattle.checker_known.proofs.knowledge.Knowledge.changing.Goals as goal

pub returns-clause-places : goal.returns-clause-places
returns-clause-places c =
    let known = c.args.self.now in
    let lists = known.resting.lists.items in
    let root = c.root-root.result in
    let places = c.in_ok-places.places.items in
    changing-at c.args.how root lists (said_all known.held.items) places c.root-root.ensures (known.all_listed c.if-not-self.false)
    (subst (λ (list : List Held). HaveAll list (said_all known.held.items) places)
    (ap said_all c.deref.ensures.value
    ∙ listed-there lists root c.index.result.now (omega (arith, c.if-root-len.false, c.len.ensures)) c.index.ensures)
    c.in_ok-places.ensures)
