use Rattle.std.proofs.Common.{List, refl, sym, ap₂}
use Rattle.typed_tree.specs.declared.tree.Expr.{Expr}
use Rattle.interpreter_state.specs.declared.work.Work.{Work}
use Rattle.interpreter.specs.Pending.{operands_of, placing}
use Rattle.interpreter.proofs.Resuming.{continues_as, reverse_pushed}
use Rattle.interpreter.proofs.Unrolling.{evaluated}
use Rattle.interpreter.proofs.interpreter.Run.assignment.Goals as goal

pub returns-clause-does : goal.returns-clause-does
returns-clause-does c = λ env outer s agrees.
    let old = c.args.self.now in
    let given = c.args.assignment.now in
    continues_as env outer old c.access.new.self _ _ c.access.result
    (ap₂ (λ (l : List Expr) (works : List Work). placing env given.target l (evaluated env outer given.value works) (operands_of old) s)
    (sym c.deref.ensures.value) (sym (reverse_pushed _ _ _ _ c.in_ok-put.ensures refl)))
    (c.access.ensures.does env outer s agrees)
