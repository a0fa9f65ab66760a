use Rattle.std.proofs.Common.{List, ◌∷◌, reverse, refl, sym, ◌∙◌, ap}
use Rattle.interpreter_state.specs.declared.work.Work.{Work}
use Rattle.interpreter_state.specs.declared.work.Work.TheVariants as work
use Rattle.interpreter.specs.Pending.{operands_of, pending_of}
use Rattle.interpreter.proofs.Resuming.{continues_as, reverse_pushed}
use Rattle.interpreter.proofs.Unrolling.{does-Element}
use Rattle.interpreter.proofs.interpreter.Run.element.Goals as goal

pub returns-in_ok-put-in-Some-clause-does : goal.returns-in_ok-put-in-Some-clause-does
returns-in_ok-put-in-Some-clause-does c = λ env outer s agrees.
    let old = c.args.self.now in
    let index = c.in-Some.index in
    continues_as env outer old c.plan.new.self _ _ c.plan.result
    (does-Element c.args.fits c.args.rest index c.in-Some.others c.args.indexes.now c.in-Some.ensures.cases.0 env outer (reverse old.pending.items)
    (operands_of old) s
    ∙ ap (λ (works : List Work). pending_of env outer (work.Value index ∷ work.Index c.args.fits ∷ works) (operands_of old) s)
    (sym (reverse_pushed _ _ _ _ c.in_ok-put-in-Some.ensures refl)))
    (c.plan.ensures.does env outer s agrees)
