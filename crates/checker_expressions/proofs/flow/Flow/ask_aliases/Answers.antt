use Rattle.std.proofs.Common.{◌≡◌, ◌∙◌, ap, Bool, List, ℕ}
use Rattle.typed_tree.specs.declared.tree.Tree.{Tree}
use Rattle.checker_calls.specs.Overlaps.{are_separate}
use Rattle.checker_calls.specs.View.{said_bindings}
use Rattle.checker_expressions.specs.declared.fault.Rule.TheVariants.{Aliases}
use Rattle.checker_expressions.specs.View.{block_called, context_of, state_of}
use Rattle.checker_expressions.specs.Walk.{around_of, asked, call_aliases}
use Rattle.checker_expressions.proofs.Flows.{goes-alike}
use Rattle.checker_expressions.proofs.flow.Flow.ask_aliases.Goals as goal

pub returns-in-Ok : goal.returns-in-Ok
returns-in-Ok c =
    let old = c.args.self.now in
    let call = c.args.call in
    let bindings = said_bindings c.args.bindings in
    let is : c.in-Ok.separate
    ≡ are_separate old.grounds.pairs old.grounds.block (around_of (block_called old.state.table.now call)) bindings =
    c.in-Ok.ensures
    ∙ ap (λ (around : List ℕ). are_separate old.grounds.pairs old.grounds.block around bindings)
    (c.around-around.ensures ∙ ap (λ (t : Tree). around_of (block_called t call)) c.table.ensures) in
    goes-alike (asked c.in-Ok.separate Aliases call.name) (call_aliases call bindings)
    (λ claims. ap (λ (kept : Bool). asked kept Aliases call.name (context_of old claims) (state_of old)) is) c.ask.ensures
