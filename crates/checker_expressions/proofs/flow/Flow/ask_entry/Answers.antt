use Rattle.std.proofs.Common.{◌≡◌, ◌∙◌, ap, map, Bool}
use Rattle.checker_loops.specs.declared.sections.BlockSection.{BlockSection}
use Rattle.checker_loops.specs.Sections.{BlockClaims, block_claims_at}
use Rattle.checker_loops.specs.BlockView.{said_section}
use Rattle.checker_calls.specs.Entry.{are_given}
use Rattle.checker_calls.specs.View.{said_bindings}
use Rattle.std.proofs.Common.{List}
use Rattle.checker_expressions.specs.declared.fault.Rule.TheVariants.{CallEntry}
use Rattle.checker_expressions.specs.View.{claims_called, context_of, state_of}
use Rattle.checker_expressions.specs.Walk.{asked, call_entry}
use Rattle.checker_expressions.proofs.Flows.{goes-alike}
use Rattle.checker_expressions.proofs.flow.Flow.ask_entry.Goals as goal

pub returns : goal.returns
returns c =
    let old = c.args.self.now in
    let call = c.args.call in
    let bindings = said_bindings c.args.bindings in
    let is : c.are_given-given.result
    ≡ are_given old.state.table.now bindings (state_of old) (block_claims_at (map said_section old.grounds.sections.items) call.block).entry =
    c.are_given-given.ensures
    ∙ ap (λ (claims : BlockClaims). are_given old.state.table.now bindings (state_of old) claims.entry)
    (c.block_claims_at-claims.ensures
    ∙ ap (λ (sections : List BlockSection). block_claims_at (map said_section sections) call.block) c.deref.ensures.value) in
    goes-alike (asked c.are_given-given.result CallEntry call.name)
    (λ context. call_entry call bindings (claims_called context call) context)
    (λ claims. ap (λ (kept : Bool). asked kept CallEntry call.name (context_of old claims) (state_of old)) is) c.ask.ensures
