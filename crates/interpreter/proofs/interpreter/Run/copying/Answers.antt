use Rattle.std.proofs.Common.{List, reverse, refl, sym, ◌∙◌, ap, ap₂}
use Rattle.typed_tree.specs.declared.tree.Expr.{Expr}
use Rattle.interpreter_state.specs.declared.work.Work.{Work}
use Rattle.meaning.specs.Meaning.{values_of, whole_of}
use Rattle.interpreter.specs.Pending.{giving_row, operands_of, pending_of, placing}
use Rattle.interpreter.proofs.Resuming.{continues_as, reverse_pushed}
use Rattle.interpreter.proofs.interpreter.Run.copying.Goals as goal

pub returns-clause-does : goal.returns-clause-does
returns-clause-does c = λ env outer s agrees.
    let old = c.args.self.now in
    let given = c.args.copying.now in
    let row = λ (l : List Expr). whole_of given.value (values_of l) env in
    let goes = λ (l others : List Expr) (works : List Work).
    placing env given.target l (giving_row (row others) (pending_of env outer works)) (operands_of old) s in
    continues_as env outer old c.access.new.self _ _ c.access.result
    (ap (goes given.indexes.items given.value_indexes.items) (sym (reverse_pushed _ _ _ _ c.in_ok-put.ensures refl))
    ∙ ap₂ (λ l others. goes l others (reverse c.put.new.pending.items)) (sym c.deref.ensures.value) (sym c.deref-2.ensures.value))
    (c.access.ensures.does env outer s agrees)
