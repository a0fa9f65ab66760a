use Rattle.std.proofs.Common.{◌∷◌, List, reverse, refl, sym, ◌∙◌, ap, arith}
use Rattle.interpreter_state.specs.declared.work.Work.{Work}
use Rattle.interpreter_state.specs.declared.work.Work.TheVariants as work
use Rattle.meaning.specs.Meaning.{value_of}
use Rattle.interpreter.specs.Pending.{giving, operands_of, pending_of, tested, with_top}
use Rattle.interpreter.proofs.Resuming.{continues_as, reverse_pushed}
use Rattle.interpreter.proofs.Unrolling.{does-passed, does-passed-Value, does-passed-Whole, does-passed-Reference, entered}
use Rattle.interpreter.specs.Size.{size_of_passed}
use Rattle.interpreter.proofs.Sizes.{adds_within, reference-size, row-first, whole-size}
use Rattle.interpreter.proofs.interpreter.Run.pass.Goals as goal

pub returns-in_ok-put-in-Value-clause-does : goal.returns-in_ok-put-in-Value-clause-does
returns-in_ok-put-in-Value-clause-does c = λ env outer s agrees.
    let old = c.args.self.now in
    let given = c.in-Value in
    let first = c.in-Some.first in
    let rest = c.in-Some.rest in
    let works = reverse old.pending.items in
    let operands = operands_of old in
    continues_as env outer old c.plan.new.self _ _ c.plan.result
    (does-passed first rest c.args.actuals c.in-Some.ensures.cases.0 env (pending_of env outer works) operands s
    ∙ does-passed-Value given.value given.fits first.now given.is env (pending_of env outer (work.Pass rest ∷ works)) operands s
    ∙ ap (λ (l : List Work). giving (value_of given.value env) (with_top (λ v. giving (tested given.fits v) (pending_of env outer l))) operands s)
    (sym (reverse_pushed _ _ _ _ c.in_ok-put-in-Value.ensures refl)))
    (c.plan.ensures.does env outer s agrees)

pub returns-in-Whole-clause-does : goal.returns-in-Whole-clause-does
returns-in-Whole-clause-does c = λ env outer s agrees.
    let old = c.args.self.now in
    let given = c.in-Whole in
    let first = c.in-Some.first in
    let rest = c.in-Some.rest in
    let works = reverse old.pending.items in
    let operands = operands_of old in
    continues_as env outer old c.plan-in-Whole.new.self _ _ c.plan-in-Whole.result
    (does-passed first rest c.args.actuals c.in-Some.ensures.cases.0 env (pending_of env outer works) operands s
    ∙ does-passed-Whole given.type_id given.value given.indexes first.now given.is c.deref.result.now c.deref.ensures.value env
    (pending_of env outer (work.Pass rest ∷ works)) operands s)
    (c.plan-in-Whole.ensures.does env outer s agrees)

pub returns-in-Reference-clause-does : goal.returns-in-Reference-clause-does
returns-in-Reference-clause-does c = λ env outer s agrees.
    let old = c.args.self.now in
    let given = c.in-Reference in
    let first = c.in-Some.first in
    let rest = c.in-Some.rest in
    let works = reverse old.pending.items in
    let operands = operands_of old in
    continues_as env outer old c.access.new.self _ _ c.access.result
    (does-passed first rest c.args.actuals c.in-Some.ensures.cases.0 env (pending_of env outer works) operands s
    ∙ does-passed-Reference given.type_id given.access given.indexes first.now given.is c.deref-in-Reference.result.now
    c.deref-in-Reference.ensures.value env (pending_of env outer (work.Pass rest ∷ works)) operands s)
    (c.access.ensures.does env outer (entered given.access.number env s) agrees)

pub returns-in-Whole-clause-fewer : goal.returns-in-Whole-clause-fewer
returns-in-Whole-clause-fewer c =
    let given = c.in-Whole in
    let first = c.in-Some.first.now in
    let all = row-first 1 size_of_passed first c.in-Some.rest.now c.args.actuals.now c.in-Some.ensures.cases.0 in
    let one = whole-size given.type_id given.value given.indexes first given.is c.deref.result.now c.deref.ensures.value in
    adds_within c.args.self.now c.plan-in-Whole.new.self c.plan-in-Whole.result _ _ c.plan-in-Whole.ensures.size (omega (arith, all, one))

pub returns-in-Reference-clause-fewer : goal.returns-in-Reference-clause-fewer
returns-in-Reference-clause-fewer c =
    let given = c.in-Reference in
    let first = c.in-Some.first.now in
    let all = row-first 1 size_of_passed first c.in-Some.rest.now c.args.actuals.now c.in-Some.ensures.cases.0 in
    let one = reference-size given.type_id given.access given.indexes first given.is c.deref-in-Reference.result.now
    c.deref-in-Reference.ensures.value in
    adds_within c.args.self.now c.access.new.self c.access.result _ _ c.access.ensures.size (omega (arith, all, one))
