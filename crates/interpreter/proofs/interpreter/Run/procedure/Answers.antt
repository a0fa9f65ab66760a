use Rattle.std.proofs.Common.{List, refl, sym, ap₂}
use Rattle.typed_tree.specs.declared.tree.Passed.{Passed}
use Rattle.interpreter_state.specs.declared.work.Work.{Work}
use Rattle.interpreter.specs.Pending.{calling, operands_of, pending_of}
use Rattle.interpreter.proofs.Resuming.{continues_as, reverse_pushed}
use Rattle.interpreter.proofs.interpreter.Run.procedure.Goals as goal

pub returns-clause-does : goal.returns-clause-does
returns-clause-does c = λ env outer s agrees.
    let old = c.args.self.now in
    let given = c.args.procedure.now in
    continues_as env outer old c.call.new.self _ _ c.call.result
    (ap₂ (λ (l : List Passed) (works : List Work). calling env given.call l (pending_of env outer works) (operands_of old) s)
    (sym c.deref.ensures.value) (sym (reverse_pushed _ _ _ _ c.in_ok-put.ensures refl)))
    (c.call.ensures.does env outer s agrees)
