use Rattle.std.proofs.Common.{reverse}
use Rattle.interpreter.specs.Pending.{operands_of}
use Rattle.interpreter.proofs.Resuming.{continues_as}
use Rattle.interpreter.proofs.Unrolling.{entered, does-right-side}
use Rattle.interpreter.proofs.interpreter.Run.right_side.Goals as goal

pub returns-clause-does : goal.returns-clause-does
returns-clause-does c = λ env outer s agrees.
    let old = c.args.self.now in
    continues_as env outer old c.plan.new.self _ _ c.plan.result
    (does-right-side c.args.number c.args.relation c.args.right c.args.indexes env outer (reverse old.pending.items) (operands_of old) s)
    (c.plan.ensures.does env outer (entered c.args.number env s) agrees)
