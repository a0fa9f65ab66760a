use Rattle.std.proofs.Common.{arith, suc}
use Rattle.checker_known.proofs.Tangles.{knot-none}
use Rattle.checker_known.proofs.knots.knots_around.Goals as goal

pub returns-then-place-held-clause-first : goal.returns-then-place-held-clause-first
returns-then-place-held-clause-first c = knot-none c.args.place c.args.held.now c.if-place-held.true

pub returns-then-place-held-clause-next : goal.returns-then-place-held-clause-next
returns-then-place-held-clause-next c = knot-none (suc c.args.place) c.args.held.now (omega (arith, c.if-place-held.true))
