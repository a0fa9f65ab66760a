use Rattle.std.proofs.Common.{List, ◌∷◌, reverse, refl, sym, ◌∙◌, ap}
use Rattle.typed_tree.specs.declared.tree.Designator.TheVariants.{Range}
use Rattle.typed_tree.specs.declared.tree.Expr.{Expr}
use Rattle.interpreter_state.specs.declared.work.Work.{Work}
use Rattle.interpreter_state.specs.declared.work.Work.TheVariants as work
use Rattle.interpreter.specs.Pending.{evaluating, gathering, operands_of, pending_of}
use Rattle.interpreter.proofs.Resuming.{continues_as, reverse_pushed}
use Rattle.interpreter.proofs.interpreter.Run.range.Goals as goal

pub returns-in_ok-put-in-Some-split_first-clause-does : goal.returns-in_ok-put-in-Some-split_first-clause-does
returns-in_ok-put-in-Some-split_first-clause-does c = λ env outer s agrees.
    let old = c.args.self.now in
    let first = c.in-Some.first.now in
    let last = c.in-Some-split_first.last.now in
    continues_as env outer old c.plan_values.new.self _ _ c.plan_values.result
    (ap (λ (l : List Expr). gathering env (Range c.args.site ∷ c.args.rest.now) l (pending_of env outer (reverse old.pending.items)) (operands_of old) s)
    (c.in-Some.ensures.cases.0 ∙ ap (λ (l : List Expr). first ∷ l) c.in-Some-split_first.ensures.cases.0)
    ∙ ap (λ (works : List Work). evaluating env first last (work.AddRange c.args.site) (pending_of env outer works) (operands_of old) s)
    (sym (reverse_pushed _ _ _ _ c.in_ok-put-in-Some-split_first.ensures refl)))
    (c.plan_values.ensures.does env outer s agrees)
