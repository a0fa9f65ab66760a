use Rattle.std.proofs.Common.{◌≡◌, List, ◌∷◌, reverse, refl, ap, sym, ◌∙◌}
use Rattle.interpreter_state.specs.declared.work.Work.{Work}
use Rattle.interpreter_state.specs.declared.work.Work.TheVariants as work
use Rattle.interpreter.specs.Pending.{operands_of}
use Rattle.interpreter.proofs.Resuming.{continues_as, reverse_pushed}
use Rattle.interpreter.proofs.Unrolling.{entered, evaluated, does-Links}
use Rattle.interpreter.proofs.interpreter.Run.links.Goals as goal

pub returns-in_ok-put-in-Some-clause-does : goal.returns-in_ok-put-in-Some-clause-does
returns-in_ok-put-in-Some-clause-does c = λ env outer s agrees.
    let old = c.args.self.now in
    let first = c.in-Some.first.now in
    let all : c.args.links.now ≡ first ∷ c.in-Some.rest.now = c.in-Some.ensures.cases.0 in
    continues_as env outer old c.plan.new.self _ _ c.plan.result
    (does-Links first c.in-Some.rest c.args.links all env outer (reverse old.pending.items) (operands_of old) s
    ∙ ap (λ (works : List Work). evaluated env outer first.operand (work.Combine first.operation ∷ works) (operands_of old) (entered first.number env s))
    (sym (reverse_pushed _ _ _ _ c.in_ok-put-in-Some.ensures refl)))
    (c.plan.ensures.does env outer (entered first.number env s) agrees)
