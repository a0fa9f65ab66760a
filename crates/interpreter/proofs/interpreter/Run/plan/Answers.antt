use Rattle.std.proofs.Common.{refl}
use Rattle.interpreter.proofs.Resuming.{goes_on_to, reverse_pushed}
use Rattle.interpreter.proofs.interpreter.Run.plan.Goals as goal

pub returns-clause-does : goal.returns-clause-does
returns-clause-does c = λ env outer s agrees.
    let old = c.args.self.now in
    goes_on_to env outer old (record old { pending = c.put-2.new.pending }) s _ _ _
    agrees
    (reverse_pushed _ _ _ _ c.in_ok-put-2.ensures (reverse_pushed _ _ _ _ c.in_ok-put.ensures refl))
    refl
    refl
