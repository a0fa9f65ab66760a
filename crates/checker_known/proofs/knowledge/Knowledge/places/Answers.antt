use Rattle.std.proofs.Common.{arith, ◌≡◌, ◌∙◌, length, sym, true, false}
use Rattle.std.proofs.lemmas.List.{length-map}
use Rattle.checker_state.specs.View.{said_held}
use Rattle.checker_known.specs.declared.halves.Test.TheVariants as test
use Rattle.checker_known.specs.Halves.{IsEdge, passes}
use Rattle.checker_known.specs.Order.{disorder_of}
use Rattle.checker_known.proofs.HeldLists.{said_all}
use Rattle.checker_known.proofs.InOrder.{between-edges, group-falls, own-edges}
use Rattle.checker_known.proofs.Searches.{edge-there}
use Rattle.checker_known.proofs.knowledge.Knowledge.places.Goals as goal

ordered : (c : goal.After-edge-2) → disorder_of (said_all c.args.self.now.held.items) ≡ 0
ordered c = sym c.args.self.now.counted ∙ (omega (arith, c.if-self-gt0.false))

whole : (c : goal.After-edge-2) → c.len-count.result ≡ length (said_all c.args.self.now.held.items)
whole c = omega (arith, c.len-count.ensures, length-map c.args.self.now.held.items said_held)

begins : (c : goal.After-edge-2) → IsEdge (passes (test.Before c.args.group)) (said_all c.args.self.now.held.items) 0 c.len-count.result c.edge.result
begins c =
    edge-there (passes (test.Before c.args.group)) c.args.self.now.held.items c.deref.result.now 0 c.len-count.result c.edge.result c.deref.ensures.value
    c.edge.ensures (group-falls c.args.group false (said_all c.args.self.now.held.items) c.len-count.result (ordered c) (omega (arith, whole c)))

ends : (c : goal.After-edge-2) → IsEdge (passes (test.UpTo c.args.group)) (said_all c.args.self.now.held.items) 0 c.len-count.result c.edge-2.result
ends c =
    edge-there (passes (test.UpTo c.args.group)) c.args.self.now.held.items c.deref-2.result.now 0 c.len-count.result c.edge-2.result c.deref-2.ensures.value
    c.edge-2.ensures (group-falls c.args.group true (said_all c.args.self.now.held.items) c.len-count.result (ordered c) (omega (arith, whole c)))

pub returns-clause-between : goal.returns-clause-between
returns-clause-between c =
    between-edges c.args.group (said_all c.args.self.now.held.items) c.len-count.result c.edge.result c.edge-2.result (whole c) (begins c) (ends c)

pub returns-clause-own : goal.returns-clause-own
returns-clause-own c = λ _.
    own-edges c.args.group (said_all c.args.self.now.held.items) c.len-count.result c.edge.result c.edge-2.result (whole c) (begins c) (ends c)
