use Rattle.std.proofs.Common.{◌≡◌, ◌∙◌, ap, ap₂, map, ℕ, List}
use Rattle.typed_tree.specs.declared.tree.Tree.{Tree}
use Rattle.checker_loops.specs.Sections.{block_claims_at}
use Rattle.checker_loops.specs.BlockView.{said_section}
use Rattle.checker_calls.specs.Actuals.{Actual, bound_to, settled}
use Rattle.checker_calls.specs.View.{said_actual}
use Rattle.checker_expressions.specs.View.{block_called, claims_called, context_of, state_of}
use Rattle.checker_expressions.specs.Walk.{call_with, called, parameters_of}
use Rattle.checker_expressions.proofs.Flows.{goes-alike}
use Rattle.checker_expressions.proofs.flow.Flow.called.Goals as goal

pub returns : goal.returns
returns c =
    let old = c.args.self.now in
    let call = c.args.call in
    let roots_are : c.parameters.result.now ≡ parameters_of (block_called old.state.table.now call) =
    c.parameters.ensures ∙ ap (λ (t : Tree). parameters_of (block_called t call)) c.table-rows.ensures in
    let actuals_are : map said_actual c.deref.result.now ≡ settled c.args.holds_call (map said_actual c.args.actuals.items) =
    ap (map said_actual) c.deref.ensures.value ∙ c.settle.ensures in
    goes-alike
    (λ context.
    call_with call (claims_called context call) (bound_to c.parameters.result.now (map said_actual c.deref.result.now)) context)
    (called call c.args.holds_call (map said_actual c.args.actuals.items))
    (λ claims.
    ap₂ (λ (roots : List ℕ) (actuals : List Actual).
    call_with call (block_claims_at (map said_section old.grounds.sections.items) call.block) (bound_to roots actuals) (context_of old claims)
    (state_of old)) roots_are actuals_are)
    c.call_with.ensures
