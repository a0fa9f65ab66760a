use Rattle.std.proofs.Common.{reverse}
use Rattle.interpreter.specs.Pending.{operands_of}
use Rattle.interpreter.proofs.Resuming.{calls_extended, continues_as}
use Rattle.interpreter.proofs.Unrolling.{does-while-round}
use Rattle.interpreter.proofs.interpreter.Run.while_round.Goals as goal

pub returns-clause-does : goal.returns-clause-does
returns-clause-does c = λ env outer s agrees.
    let old = c.args.self.now in
    continues_as env outer old c.plan.new.self _ _ c.plan.result
    (does-while-round env outer (calls_extended env outer old s agrees) c.args.head.now c.args.body.now (reverse old.pending.items) (operands_of old) s)
    (c.plan.ensures.does env outer s agrees)
