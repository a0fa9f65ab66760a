use Rattle.std.proofs.Common.{List, refl, ap, sym}
use Rattle.interpreter_state.specs.declared.work.Work.{Work}
use Rattle.meaning.specs.Meaning.{value_of}
use Rattle.interpreter.specs.Pending.{giving, pending_of, operands_of}
use Rattle.interpreter.proofs.Resuming.{continues_as, reverse_pushed}
use Rattle.interpreter.proofs.interpreter.Run.plan_values.Goals as goal

pub returns-clause-does : goal.returns-clause-does
returns-clause-does c = λ env outer s agrees.
    let old = c.args.self.now in
    let second = value_of c.args.second.now env in
    continues_as env outer old c.plan.new.self _ _ c.plan.result
    (ap (λ (works : List Work). giving (value_of c.args.first.now env) (giving second (pending_of env outer works)) (operands_of old) s)
    (sym (reverse_pushed _ _ _ _ c.in_ok-put.ensures refl)))
    (c.plan.ensures.does env outer s agrees)
