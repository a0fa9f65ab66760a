use Rattle.std.proofs.Common.{arith}
use Rattle.checker_known.proofs.Longer.{begins-inside, ends-inside, longer-begin, longer-end}
use Rattle.checker_known.proofs.knowledge.Knowledge.beside.Goals as goal

pub add_longer-requires : goal.add_longer-requires
add_longer-requires c = omega (arith, c.loop-place-test.true, ends-inside c.args.self.now.held.items c.near-first.ensures)

pub loop-place-init : goal.loop-place-init
loop-place-init c = (
  begins-inside c.args.self.now.held.items c.near-first.ensures,
  longer-begin c.args.self.now.held.items c.near-first.ensures c.new.result.items c.new-2.result.items c.new.ensures.items c.new-2.ensures.items,
)

pub loop-place-preserved : goal.loop-place-preserved
loop-place-preserved c = (
  omega (arith, c.loop-place-test.true, ends-inside c.args.self.now.held.items c.near-first.ensures),
  c.in_ok-add_longer.ensures c.loop-place.invariant.1,
)

pub returns : goal.returns
returns c =
    longer-end c.args.self.now.held.items c.near-first.ensures c.loop-place.beside.places.items c.loop-place.beside.longer.items c.loop-place.place
    c.loop-place-test.false c.loop-place.invariant.0 c.loop-place.invariant.1
