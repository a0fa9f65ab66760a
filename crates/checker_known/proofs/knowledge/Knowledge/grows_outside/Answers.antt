use Rattle.std.proofs.Common.{arith, min, subst, sym, ℕ}
use Rattle.checker_known.proofs.Growing.{NoneCounted, none-deep, none-first, none-next}
use Rattle.checker_known.proofs.knowledge.Knowledge.grows_outside.Goals as goal

pub loop-place-init : goal.loop-place-init
loop-place-init c =
    let most = c.args.self.now.growing.items in
    subst (λ (place : ℕ). NoneCounted most (min c.args.depth 128) place) (sym c.min-place.ensures) (none-first most (min c.args.depth 128))

pub loop-place-preserved : goal.loop-place-preserved
loop-place-preserved c =
    none-next c.args.self.now.growing.items (min c.args.depth 128) c.loop-place.place c.index.result.now
    (omega (arith, c.loop-place-test.true, c.len-counted.ensures)) c.index.ensures c.if-index-gt0.false c.loop-place.invariant

pub returns : goal.returns
returns c =
    let self = c.args.self.now in
    none-deep c.args.depth c.loop-place.place self.growing.items self.rows.items (omega (arith, c.if-counted-le-DEEPEST.false, c.len-counted.ensures))
    (omega (arith, c.loop-place-test.false, c.len-counted.ensures)) self.growing_counted c.loop-place.invariant
