use Rattle.std.proofs.Common.{reverse}
use Rattle.meaning.specs.Meaning.{default_width}
use Rattle.interpreter.specs.Pending.{operands_of}
use Rattle.interpreter.proofs.Resuming.{continues_as}
use Rattle.interpreter.proofs.Unrolling.{does-Width}
use Rattle.interpreter.proofs.interpreter.Run.width.Goals as goal

pub returns-in-Some-clause-does : goal.returns-in-Some-clause-does
returns-in-Some-clause-does c = λ env outer s agrees.
    let old = c.args.self.now in
    continues_as env outer old c.plan.new.self _ _ c.plan.result
    (does-Width c.args.width.now c.in-Some.width c.in-Some.is (default_width c.args.representation) env outer (reverse old.pending.items)
    (operands_of old) s)
    (c.plan.ensures.does env outer s agrees)
