use Rattle.std.proofs.Common.{reverse}
use Rattle.interpreter.specs.Pending.{operands_of}
use Rattle.interpreter.proofs.Resuming.{calls_extended, continues_as}
use Rattle.interpreter.proofs.Unrolling.{does-repeat-round}
use Rattle.interpreter.proofs.interpreter.Run.repeat_round.Goals as goal

pub returns-clause-does : goal.returns-clause-does
returns-clause-does c = λ env outer s agrees.
    let old = c.args.self.now in
    continues_as env outer old c.tested_turn.new.self _ _ c.tested_turn.result
    (does-repeat-round env outer (calls_extended env outer old s agrees) c.args.head c.args.statements c.deref.result
    (reverse old.pending.items) (operands_of old) s c.deref.ensures.value)
    (c.tested_turn.ensures.does env outer s agrees)
