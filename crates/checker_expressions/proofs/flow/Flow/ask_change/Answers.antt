use Rattle.std.proofs.Common.{◌≡◌, ◌∙◌, ap, map, Bool, List, []}
use Rattle.std.specs.List.{list_all}
use Rattle.checker_loops.specs.declared.sections.BlockSection.{BlockSection}
use Rattle.checker_loops.specs.Sections.{BlockClaims, block_claims_at}
use Rattle.checker_loops.specs.BlockView.{said_section}
use Rattle.checker_calls.specs.Actuals.{actual_of}
use Rattle.checker_calls.specs.Exit.{root_changed, roots_changed}
use Rattle.checker_calls.specs.View.{said_bindings}
use Rattle.checker_expressions.specs.declared.fault.Rule.TheVariants.{Changes}
use Rattle.checker_expressions.specs.View.{claims_called, context_of, state_of}
use Rattle.checker_expressions.specs.Walk.{asked, call_change, may_change}
use Rattle.checker_expressions.proofs.Flows.{goes-alike}
use Rattle.checker_expressions.proofs.OfCalls.{all-listed}
use Rattle.checker_expressions.proofs.flow.Flow.ask_change.Goals as goal

pub returns : goal.returns
returns c =
    let old = c.args.self.now in
    let call = c.args.call in
    let bindings = said_bindings c.args.bindings in
    let is : c.may_call-may.result ≡ list_all (may_change (context_of old []))
    (roots_changed bindings (block_claims_at (map said_section old.grounds.sections.items) call.block).changes) =
    c.may_call-may.ensures
    ∙ all-listed (may_change (context_of old [])) (λ root. root_changed root (actual_of bindings root)) c.block_claims_at-claims.result.changes.listed.now
    ∙ ap (λ (claims : BlockClaims). list_all (may_change (context_of old [])) (roots_changed bindings claims.changes))
    (c.block_claims_at-claims.ensures
    ∙ ap (λ (sections : List BlockSection). block_claims_at (map said_section sections) call.block) c.deref.ensures.value) in
    goes-alike (asked c.may_call-may.result Changes call.name)
    (λ context. call_change call.name bindings (claims_called context call) context)
    (λ claims. ap (λ (kept : Bool). asked kept Changes call.name (context_of old claims) (state_of old)) is) c.ask.ensures
