use Rattle.std.proofs.Common.{◌≡◌, ◌∷◌, [], List, reverse, refl, sym, ap, ◌∙◌}
use Rattle.interpreter_state.specs.declared.work.Work.{Work}
use Rattle.interpreter.specs.Pending.{operands_of, pending_of, writing_one}
use Rattle.interpreter.proofs.Resuming.{continues_as, none_left, reverse_pushed}
use Rattle.interpreter.proofs.Unrolling.{does-Parameters, does-no-Parameters}
use Rattle.interpreter.proofs.interpreter.Run.parameters.Goals as goal

pub returns-in_ok-put-in-Some-clause-does : goal.returns-in_ok-put-in-Some-clause-does
returns-in_ok-put-in-Some-clause-does c = λ env outer s agrees.
    let old = c.args.self.now in
    let first = c.in-Some.first in
    let all : c.args.parameters.now ≡ first.now ∷ c.in-Some.rest.now = c.in-Some.ensures.cases.0 in
    continues_as env outer old c.parameter.new.self _ _ c.parameter.result
    (does-Parameters first c.in-Some.rest c.args.parameters c.args.ends_line all env outer (reverse old.pending.items) (operands_of old) s
    ∙ ap (λ (works : List Work). writing_one env first.now (pending_of env outer works) (operands_of old) s)
    (sym (reverse_pushed _ _ _ _ c.in_ok-put-in-Some.ensures refl)))
    (c.parameter.ensures.does env outer s agrees)

pub returns-in-None-clause-does : goal.returns-in-None-clause-does
returns-in-None-clause-does c = λ env outer s agrees.
    let old = c.args.self.now in
    let none : c.args.parameters.now ≡ [] = none_left c.args.parameters.now c.in-None.ensures.cases in
    continues_as env outer old c.line_end.new.self _ _ c.line_end.result
    (does-no-Parameters c.args.parameters c.args.ends_line none env outer (reverse old.pending.items) (operands_of old) s)
    (c.line_end.ensures.does env outer s agrees)
