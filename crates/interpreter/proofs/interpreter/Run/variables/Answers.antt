use Rattle.std.proofs.Common.{◌≡◌, ◌∷◌, [], List, reverse, refl, sym, ap, ◌∙◌}
use Rattle.interpreter_state.specs.declared.work.Work.{Work}
use Rattle.interpreter_state.specs.declared.work.Work.TheVariants as work
use Rattle.interpreter.specs.Pending.{accessing, operands_of, pending_of}
use Rattle.interpreter.proofs.Resuming.{continues_as, none_left, reverse_pushed}
use Rattle.interpreter.proofs.Inputs.{does-Variables, does-no-Variables}
use Rattle.interpreter.proofs.Unrolling.{entered}
use Rattle.interpreter.proofs.interpreter.Run.variables.Goals as goal

pub returns-in_ok-put-in-Some-clause-does : goal.returns-in_ok-put-in-Some-clause-does
returns-in_ok-put-in-Some-clause-does c = λ env outer s agrees.
    let old = c.args.self.now in
    let first = c.in-Some.first in
    let there = entered first.now.access.number env s in
    let all : c.args.variables.now ≡ first.now ∷ c.in-Some.rest.now = c.in-Some.ensures.cases.0 in
    continues_as env outer old c.access.new.self _ _ c.access.result
    (does-Variables first c.in-Some.rest c.args.variables c.args.line all c.deref.result.now c.deref.ensures.value env outer
    (reverse old.pending.items) (operands_of old) s
    ∙ ap (λ (works : List Work). accessing env first.now.access c.deref.result.now (work.Read first) (pending_of env outer works) (operands_of old) there)
    (sym (reverse_pushed _ _ _ _ c.in_ok-put-in-Some.ensures refl)))
    (c.access.ensures.does env outer there agrees)

pub returns-in-None-clause-does : goal.returns-in-None-clause-does
returns-in-None-clause-does c = λ env outer s agrees.
    let old = c.args.self.now in
    let none : c.args.variables.now ≡ [] = none_left c.args.variables.now c.in-None.ensures.cases in
    continues_as env outer old c.line.new.self _ _ c.line.result
    (does-no-Variables c.args.variables c.args.line none env outer (reverse old.pending.items) (operands_of old) s)
    (c.line.ensures.does env outer s agrees)
