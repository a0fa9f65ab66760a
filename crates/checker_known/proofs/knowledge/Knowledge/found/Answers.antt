use Rattle.std.proofs.Common.{arith, ◌≡◌, ◌∙◌, sym, length}
use Rattle.std.proofs.lemmas.List.{length-map}
use Rattle.checker_state.specs.State.{held_order}
use Rattle.checker_state.specs.View.{said_held}
use Rattle.checker_known.specs.declared.halves.Test.TheVariants as test
use Rattle.checker_known.specs.Halves.{IsEdge, passes}
use Rattle.checker_known.specs.Order.{disorder_of}
use Rattle.checker_known.proofs.HeldLists.{said-inside, said_all}
use Rattle.checker_known.proofs.InOrder.{below-falls, there}
use Rattle.checker_known.proofs.Searches.{edge-there}
use Rattle.checker_known.proofs.Finds.{found-none, found-there}
use Rattle.checker_known.proofs.knowledge.Knowledge.found.Goals.{After-edge-place}
use Rattle.checker_known.proofs.knowledge.Knowledge.found.Goals as goal

ordered : (c : After-edge-place) → disorder_of (said_all c.args.self.now.held.items) ≡ 0
ordered c = sym c.args.self.now.counted ∙ c.requires

whole : (c : After-edge-place) → c.len.result ≡ length (said_all c.args.self.now.held.items)
whole c = omega (arith, c.len.ensures, length-map c.args.self.now.held.items said_held)

edge : (c : After-edge-place)
    → IsEdge (passes (test.Below c.args.one.now)) (said_all c.args.self.now.held.items) 0 c.len.result c.edge-place.result
edge c =
    let held = c.args.self.now.held.items in
    edge-there (passes (test.Below c.args.one.now)) held c.deref.result.now 0 c.len.result c.edge-place.result c.deref.ensures.value
    c.edge-place.ensures (below-falls (said_held c.args.one.now) (said_all held) c.len.result (ordered c) (omega (arith, whole c)))

pub returns-then-place-len : goal.returns-then-place-len
returns-then-place-len c =
    let at = goal.at.returns-then-place-len c in
    let held = said_all c.args.self.now.held.items in
    found-none (said_held c.args.one.now) held c.len.result c.edge-place.result (ordered at.After-edge-place) (whole at.After-edge-place)
    (edge at.After-edge-place)
    (λ inside is. omega (arith, inside, c.if-place-len.true, c.len-2.ensures, length-map c.args.self.now.held.items said_held))

pub returns-in-Equal : goal.returns-in-Equal
returns-in-Equal c =
    let at = goal.at.returns-in-Equal c in
    let held = said_all c.args.self.now.held.items in (
      said-inside c.args.self.now.held.items c.edge-place.result (omega (arith, c.if-place-len.false, c.len-2.ensures)),
      found-there (said_held c.args.one.now) held c.len.result c.edge-place.result (ordered at.After-edge-place) (whole at.After-edge-place)
          (edge at.After-edge-place),
    )

pub returns-in_default : goal.returns-in_default
returns-in_default c =
    let at = goal.at.returns-in_default c in
    let held = said_all c.args.self.now.held.items in
    let one = said_held c.args.one.now in
    found-none one held c.len.result c.edge-place.result (ordered at.After-edge-place) (whole at.After-edge-place) (edge at.After-edge-place)
    (λ inside is.
    c.in_default.not-Equal
    (c.compare.ensures
    ∙ sym (there (held_order one) c.args.self.now.held.items c.edge-place.result c.index.result.now one
    (omega (arith, c.if-place-len.false, c.len-2.ensures)) c.index.ensures)
    ∙ is))
