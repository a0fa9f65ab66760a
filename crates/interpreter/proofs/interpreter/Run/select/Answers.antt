use Rattle.std.proofs.Common.{List, ◌∷◌, [], reverse, sym, ◌∙◌, ap}
use Rattle.types.specs.declared.form.Step.TheVariants as step
use Rattle.typed_tree.specs.declared.tree.Selector.{Selector}
use Rattle.interpreter_state.specs.declared.work.Work.TheVariants as work
use Rattle.meaning.specs.Store.{part}
use Rattle.meaning.specs.Meaning.{OfPlace}
use Rattle.interpreter.specs.Pending.{below_top, operands_of, pending_of, resumed, selecting, top_place}
use Rattle.interpreter.proofs.Resuming.{continues_as, goes_on_below}
use Rattle.interpreter.proofs.Unrolling.{selecting-on}
use Rattle.interpreter.proofs.interpreter.Run.select.Goals as goal

pub returns-in_ok-extend-in-Some-Field-default-clause-does : goal.returns-in_ok-extend-in-Some-Field-default-clause-does
returns-in_ok-extend-in-Some-Field-default-clause-does c = λ env outer s agrees.
    let old = c.args.self.now in
    let given = c.in-Some-Field-default in
    let indexes = c.args.indexes in
    let operands = operands_of old in
    let next = pending_of env outer (reverse old.pending.items) in
    let place = part (top_place operands) (step.Field given.position ∷ []) in
    goes_on_below old c.extend.new.self c.do_next.new.self env outer s (λ env. resumed env (work.Select given.rest indexes))
    (OfPlace place ∷ below_top operands)
    c.do_next.result _ c.extend.ensures.same c.in_ok-extend-in-Some-Field-default.ensures.top
    (ap (λ (l : List Selector). selecting env l indexes.now next operands s)
    (given.ensures.cases.0 ∙ ap (λ (selector : Selector). selector ∷ given.rest.now) given.field-0-0-is)
    ∙ sym (selecting-on env given.rest.now indexes.now place next (below_top operands) s))
    agrees c.do_next.ensures.does

pub returns-in-Some-Element-default-clause-does : goal.returns-in-Some-Element-default-clause-does
returns-in-Some-Element-default-clause-does c = λ env outer s agrees.
    let old = c.args.self.now in
    let given = c.in-Some-Element-default in
    continues_as env outer old c.element.new.self _ _ c.element.result
    (ap (λ (l : List Selector). selecting env l c.args.indexes.now (pending_of env outer (reverse old.pending.items)) (operands_of old) s)
    (given.ensures.cases.0 ∙ ap (λ (selector : Selector). selector ∷ given.rest.now) given.field-0-0-is))
    (c.element.ensures.does env outer s agrees)
