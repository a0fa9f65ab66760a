use Rattle.std.proofs.Common.{List, ◌∷◌, refl, ap, sym}
use Rattle.interpreter_state.specs.declared.work.Work.{Work}
use Rattle.interpreter_state.specs.declared.work.Work.TheVariants as work
use Rattle.interpreter.specs.Pending.{operands_of}
use Rattle.interpreter.proofs.Resuming.{continues_as, reverse_pushed}
use Rattle.interpreter.proofs.Unrolling.{evaluated}
use Rattle.interpreter.proofs.interpreter.Run.ordinal.Goals as goal

pub returns-clause-does : goal.returns-clause-does
returns-clause-does c = λ env outer s agrees.
    let old = c.args.self.now in
    let width = work.Width c.args.width c.args.representation in
    continues_as env outer old c.plan.new.self _ _ c.plan.result
    (ap (λ (works : List Work). evaluated env outer c.args.value.now (width ∷ works) (operands_of old) s)
    (sym (reverse_pushed _ _ _ _ c.in_ok-put.ensures refl)))
    (c.plan.ensures.does env outer s agrees)
