use Rattle.std.proofs.Common.{sym, subst, List}
use Rattle.checker_state.specs.State.{RowState}
use Rattle.checker_known.specs.View.{AreGrowing}
use Rattle.checker_known.proofs.Growing.{types-grow}
use Rattle.checker_known.proofs.knowledge.Knowledge.of_types.Goals as goal

pub invariant_of-result-clause-growing_counted : goal.invariant_of-result-clause-growing_counted
invariant_of-result-clause-growing_counted c =
    let most = c.in_ok-growing.growing.items in
    subst (λ (rows : List RowState). AreGrowing most rows) (sym c.in_ok-rows.ensures) (types-grow c.args.table.now most)
