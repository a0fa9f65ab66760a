use Rattle.std.proofs.Common.{◌≡◌, ◌∙◌, ap, map, List}
use Rattle.checker_state.specs.State.{State}
use Rattle.checker_loops.specs.declared.sections.BlockSection.{BlockSection}
use Rattle.checker_loops.specs.Sections.{BlockClaims, block_claims_at}
use Rattle.checker_loops.specs.BlockView.{said_claims, said_section}
use Rattle.checker_calls.specs.Actuals.{bound_to}
use Rattle.checker_calls.specs.Exit.{behind_call}
use Rattle.checker_calls.specs.View.{said_actual}
use Rattle.checker_expressions.specs.View.{claims_called, context_of, state_of}
use Rattle.checker_expressions.specs.Walk.{Walking, ◌>>=◌, call_aliases, call_behind, call_change, call_entry, changed_by}
use Rattle.checker_expressions.proofs.Flows.{goes-alike, goes-moved, goes-then}
use Rattle.checker_expressions.proofs.flow.Flow.call_with.Goals as goal

pub returns : goal.returns
returns c =
    let call = c.args.call in
    let bindings = bound_to c.args.roots.now (map said_actual c.args.actuals.now) in
    let entry : Walking (Unit {0}) = λ context. call_entry call bindings (claims_called context call) context in
    let change : Walking (Unit {0}) = λ context. call_change call.name bindings (claims_called context call) context in
    let behind : Walking (Unit {0}) = λ context. call_behind call bindings (claims_called context call) context in
    let mid = c.ask_change.new.self in
    let step : BlockClaims → State → State = λ claims.
    behind_call mid.state.table.now mid.grounds.pairs mid.grounds.block call.block bindings claims in
    let found = said_claims c.block_claims_at-claims.result in
    let claims_are : found ≡ block_claims_at (map said_section mid.grounds.sections.items) call.block =
    c.block_claims_at-claims.ensures
    ∙ ap (λ (sections : List BlockSection). block_claims_at (map said_section sections) call.block) c.deref.ensures.value in
    goes-then (call_aliases call bindings) (λ _. entry >>= λ _. change >>= λ _. behind) c.ask_aliases.ensures
    (goes-then entry (λ _. change >>= λ _. behind) c.ask_entry.ensures
    (goes-then change (λ _. behind) c.ask_change.ensures
    (goes-alike (changed_by (step found)) behind
    (λ claims. ap (λ (block : BlockClaims). changed_by (step block) (context_of mid claims) (state_of mid)) claims_are)
    (goes-moved (step found) mid c.call.ensures))))
