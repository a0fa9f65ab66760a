use Rattle.std.proofs.Common.{◌≡◌, ◌∙◌, ap, ap₂, map, ℕ, List}
use Rattle.std.specs.List.{list_any}
use Rattle.typed_tree.specs.declared.tree.Tree.{Tree}
use Rattle.checker_loops.specs.declared.sections.BlockSection.{BlockSection}
use Rattle.checker_loops.specs.Sections.{BlockClaims, block_claims_at}
use Rattle.checker_loops.specs.BlockView.{said_section}
use Rattle.checker_calls.specs.Actuals.{actual_of, bound_to}
use Rattle.checker_calls.specs.Exit.{root_changed, roots_changed}
use Rattle.checker_expressions.specs.View.{block_called, callees_at}
use Rattle.checker_expressions.specs.Walk.{is_or_pairs, parameters_of}
use Rattle.checker_expressions.proofs.TouchedParts.{all_told, any-listed}
use Rattle.checker_expressions.proofs.flow.Flow.call_touches.Goals as goal

pub returns : goal.returns
returns c =
    let flow = c.args.self.now in
    let call = c.args.call in
    let told = all_told c.args.actuals.now in
    let test = is_or_pairs (callees_at flow) c.args.root in
    let roots_are : c.parameters-parameters.result.now ≡ parameters_of (block_called flow.state.table.now call) =
    c.parameters-parameters.ensures ∙ ap (λ (t : Tree). parameters_of (block_called t call)) c.table.ensures in
    c.listed_touch.ensures
    ∙ any-listed test (λ root. root_changed root (actual_of (bound_to c.parameters-parameters.result.now told) root))
    c.block_claims_at-claims.result.changes.listed.now
    ∙ ap₂ (λ (roots : List ℕ) (claims : BlockClaims). list_any test (roots_changed (bound_to roots told) claims.changes)) roots_are
    (c.block_claims_at-claims.ensures
    ∙ ap (λ (sections : List BlockSection). block_claims_at (map said_section sections) call.block) c.deref.ensures.value)
