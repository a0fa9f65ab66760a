use Rattle.std.proofs.Common.{List, ◌∷◌, reverse, refl, sym, ◌∙◌, ap}
use Rattle.typed_tree.specs.declared.tree.Designator.TheVariants.{Single}
use Rattle.typed_tree.specs.declared.tree.Expr.{Expr}
use Rattle.interpreter_state.specs.declared.work.Work.{Work}
use Rattle.interpreter_state.specs.declared.work.Work.TheVariants as work
use Rattle.interpreter.specs.Pending.{gathering, operands_of, pending_of}
use Rattle.interpreter.proofs.Resuming.{continues_as, reverse_pushed}
use Rattle.interpreter.proofs.interpreter.Run.single.Goals as goal

pub returns-in_ok-put-in-Some-clause-does : goal.returns-in_ok-put-in-Some-clause-does
returns-in_ok-put-in-Some-clause-does c = λ env outer s agrees.
    let old = c.args.self.now in
    let member = c.in-Some.member in
    continues_as env outer old c.plan.new.self _ _ c.plan.result
    (ap (λ (l : List Expr). gathering env (Single c.args.site ∷ c.args.rest.now) l (pending_of env outer (reverse old.pending.items)) (operands_of old) s)
    c.in-Some.ensures.cases.0
    ∙ ap (λ (works : List Work). pending_of env outer (work.Value member ∷ work.AddMember c.args.site ∷ works) (operands_of old) s)
    (sym (reverse_pushed _ _ _ _ c.in_ok-put-in-Some.ensures refl)))
    (c.plan.ensures.does env outer s agrees)
