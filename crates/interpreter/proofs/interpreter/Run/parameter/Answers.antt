use Rattle.std.proofs.Common.{reverse}
use Rattle.interpreter.specs.Pending.{pending_of, operands_of}
use Rattle.interpreter.proofs.Resuming.{continues_as}
use Rattle.interpreter.proofs.Unrolling.{does-Ordinal, does-String}
use Rattle.interpreter.proofs.interpreter.Run.parameter.Goals as goal

pub returns-in-Ordinal-clause-does : goal.returns-in-Ordinal-clause-does
returns-in-Ordinal-clause-does c = λ env outer s agrees.
    let old = c.args.self.now in
    let given = c.in-Ordinal in
    continues_as env outer old c.ordinal.new.self _ _ c.ordinal.result
    (does-Ordinal c.args.parameter.now given.value given.representation given.is env (pending_of env outer (reverse old.pending.items))
    (operands_of old) s)
    (c.ordinal.ensures.does env outer s agrees)

pub returns-in-String-clause-does : goal.returns-in-String-clause-does
returns-in-String-clause-does c = λ env outer s agrees.
    let old = c.args.self.now in
    let given = c.in-String in
    continues_as env outer old c.string.new.self _ _ c.string.result
    (does-String c.args.parameter.now given.value given.indexes given.is c.deref.result.now c.deref.ensures.value env
    (pending_of env outer (reverse old.pending.items)) (operands_of old) s)
    (c.string.ensures.does env outer s agrees)
