use Rattle.std.proofs.Common.{ap, refl, sym, ◌∙◌, List}
use Rattle.typed_tree.specs.declared.tree.Expr.{Expr}
use Rattle.checker_expressions.specs.Walk.{◌>>=◌, give, index_pieces, value_walk, whole_walk, written_walk}
use Rattle.checker_expressions.proofs.Flows.{goes-as, goes-mapped}
use Rattle.checker_expressions.proofs.flow.Flow.written.Goals as goal

pub returns-in-Ordinal-clause-goes : goal.returns-in-Ordinal-clause-goes
returns-in-Ordinal-clause-goes g c =
    goes-as (sym (ap written_walk c.in-Ordinal.is)) (goes-mapped (value_walk c.in-Ordinal.value) (λ _. tt) c.expression.ensures.goes refl)

pub returns-in-String-clause-goes : goal.returns-in-String-clause-goes
returns-in-String-clause-goes g c =
    let it = c.in-String in
    goes-as
    (sym (ap written_walk it.is ∙ ap (λ (items : List Expr). whole_walk it.value (index_pieces items) >>= λ _. give tt) (sym c.deref.ensures.value)))
    (goes-mapped (whole_walk it.value (index_pieces c.deref.result.now)) (λ _. tt) c.whole_value.ensures.goes refl)
