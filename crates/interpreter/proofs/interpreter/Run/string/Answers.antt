use Rattle.std.proofs.Common.{List, ◌∙◌, reverse, refl, ap, sym}
use Rattle.interpreter_state.specs.declared.work.Work.{Work}
use Rattle.meaning.specs.Meaning.{values_of, whole_of}
use Rattle.interpreter.specs.Pending.{giving_row, operands_of}
use Rattle.interpreter.proofs.Resuming.{continues_as, reverse_pushed}
use Rattle.interpreter.proofs.Unrolling.{does-long, does-wide, evaluated}
use Rattle.interpreter.proofs.interpreter.Run.string.Goals as goal

pub returns-in_ok-put-in-Some-2-clause-does : goal.returns-in_ok-put-in-Some-2-clause-does
returns-in_ok-put-in-Some-2-clause-does c = λ env outer s agrees.
    let old = c.args.self.now in
    let width = c.in-Some.width in
    let row = whole_of c.args.value.now (values_of c.args.indexes.now) env in
    continues_as env outer old c.plan.new.self _ _ c.plan.result
    (does-wide c.args.width.now width c.in-Some.is c.args.value.now c.args.indexes.now env outer (reverse old.pending.items) (operands_of old) s
    ∙ ap (λ (works : List Work). giving_row row (evaluated env outer width.value works) (operands_of old) s)
    (sym (reverse_pushed _ _ _ _ c.in_ok-put-in-Some-2.ensures (reverse_pushed _ _ _ _ c.in_ok-put-in-Some.ensures refl))))
    (c.plan.ensures.does env outer s agrees)

pub returns-in-None-clause-does : goal.returns-in-None-clause-does
returns-in-None-clause-does c = λ env outer s agrees.
    let old = c.args.self.now in
    continues_as env outer old c.plan-in-None.new.self _ _ c.plan-in-None.result
    (does-long c.args.width.now c.in-None.is c.args.value c.args.indexes c.length_of.result c.length_of.ensures env outer (reverse old.pending.items)
    (operands_of old) s)
    (c.plan-in-None.ensures.does env outer s agrees)
