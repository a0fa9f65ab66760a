use Rattle.std.proofs.Common.{arith, ◌≡◌, ◌∙◌, length, sym}
use Rattle.std.proofs.lemmas.List.{length-map}
use Rattle.checker_state.specs.View.{said_held}
use Rattle.checker_known.specs.declared.halves.Test.TheVariants as test
use Rattle.checker_known.specs.Halves.{passes}
use Rattle.checker_known.proofs.HeldLists.{said_all}
use Rattle.checker_known.proofs.InOrder.{below-falls, comes-edge}
use Rattle.checker_known.proofs.Searches.{edge-there}
use Rattle.checker_known.proofs.knowledge.Knowledge.before.Goals as goal

pub returns-then-self-eq0 : goal.returns-then-self-eq0
returns-then-self-eq0 c =
    let held = c.args.self.now.held.items in
    let one = said_held c.args.one.now in
    let whole : c.len.result ≡ length (said_all held) = omega (arith, c.len.ensures, length-map held said_held) in
    comes-edge one (said_all held) c.len.result c.edge.result (omega (arith, whole))
    (edge-there (passes (test.Below c.args.one.now)) held c.deref.result.now 0 c.len.result c.edge.result c.deref.ensures.value c.edge.ensures
    (below-falls one (said_all held) c.len.result (sym c.args.self.now.counted ∙ c.if-self-eq0.true) (omega (arith, whole))))
