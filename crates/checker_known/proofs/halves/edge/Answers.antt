use Rattle.std.proofs.Common.{arith, ◌∙◌, ◌+◌, ◌-◌, ◌/◌, ◌<◌, ℕ, length, sym}
use Rattle.checker_known.specs.Halves.{passes}
use Rattle.checker_known.proofs.HeldLists.{said_all}
use Rattle.checker_known.proofs.Searches.{halved-begin, halved-edge, halved-from, halved-to, said-test}
use Rattle.checker_known.proofs.halves.edge.Goals as goal

abbrev half : ℕ → ℕ → ℕ
half from to = from + (to - from) / 2

pub loop-from-init : goal.loop-from-init
loop-from-init c = halved-begin (passes c.args.test) (said_all c.args.held.now) c.args.first c.args.end c.requires.in_order

pub loop-from-preserved-then-passes : goal.loop-from-preserved-then-passes
loop-from-preserved-then-passes c =
    let held = c.args.held.now in
    let inside : half c.loop-from.from c.loop-from.to < length held =
    omega (arith, c.loop-from-test.true, c.loop-from.invariant.ends, c.requires.inside) in
    halved-from (passes c.args.test) (said_all held) c.args.first c.args.end c.loop-from.from c.loop-from.to _ c.loop-from.invariant (omega arith)
    (omega (arith, c.loop-from-test.true))
    (λ none. said-test (passes c.args.test) held _ none _ inside ∙ sym c.passes.ensures ∙ c.if-passes.true)

pub loop-from-preserved : goal.loop-from-preserved
loop-from-preserved c =
    let held = c.args.held.now in
    let inside : half c.loop-from.from c.loop-from.to < length held =
    omega (arith, c.loop-from-test.true, c.loop-from.invariant.ends, c.requires.inside) in
    halved-to (passes c.args.test) (said_all held) c.args.first c.args.end c.loop-from.from c.loop-from.to _ c.loop-from.invariant (omega arith)
    (omega (arith, c.loop-from-test.true))
    (λ none. said-test (passes c.args.test) held _ none _ inside ∙ sym c.passes.ensures ∙ c.if-passes.false)

pub returns : goal.returns
returns c = λ falls.
    halved-edge (passes c.args.test) (said_all c.args.held.now) c.args.first c.args.end c.loop-from.from c.loop-from.to c.loop-from.invariant
    c.loop-from-test.false falls
