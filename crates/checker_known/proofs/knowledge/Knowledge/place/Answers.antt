use Rattle.std.proofs.Common.{arith, ◌∙◌, sym}
use Rattle.checker_state.specs.View.{said_held}
use Rattle.checker_known.proofs.HeldLists.{comes-behind, comes-here, is-there, said-inside, said-there, said_all}
use Rattle.checker_known.proofs.knowledge.Knowledge.place.Goals as goal

pub loop-place-init : goal.loop-place-init
loop-place-init c = c.before-place.ensures

pub returns-in-Less : goal.returns-in-Less
returns-in-Less c =
    let held = c.args.self.now.held.items in
    let i = c.loop-place.place in
    let next = c.index.result.now in
    let inside = said-inside held i (omega (arith, c.loop-place-test.true, c.len-place-end.ensures)) in (
      omega (arith, inside),
      comes-here (said_held c.args.one.now) (said_all held) i (said_held next) inside
          (said-there held i next (omega (arith, c.loop-place-test.true, c.len-place-end.ensures)) c.index.ensures)
          c.loop-place.invariant (sym c.compare.ensures ∙ c.in-Less.is),
    )

pub returns-in-Equal : goal.returns-in-Equal
returns-in-Equal c =
    let held = c.args.self.now.held.items in
    let i = c.loop-place.place in
    let next = c.index.result.now in
    is-there (said_held c.args.one.now) (said_all held) i (said_held next)
    (said-inside held i (omega (arith, c.loop-place-test.true, c.len-place-end.ensures)))
    (said-there held i next (omega (arith, c.loop-place-test.true, c.len-place-end.ensures)) c.index.ensures)
    c.loop-place.invariant (sym c.compare.ensures ∙ c.in-Equal.is)

pub loop-place-preserved : goal.loop-place-preserved
loop-place-preserved c =
    let held = c.args.self.now.held.items in
    let i = c.loop-place.place in
    let next = c.index.result.now in
    comes-behind (said_held c.args.one.now) (said_all held) i (said_held next)
    (said-inside held i (omega (arith, c.loop-place-test.true, c.len-place-end.ensures)))
    (said-there held i next (omega (arith, c.loop-place-test.true, c.len-place-end.ensures)) c.index.ensures)
    c.loop-place.invariant (sym c.compare.ensures ∙ c.in-Greater.is)
