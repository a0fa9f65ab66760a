use Rattle.std.proofs.Common.{◌∙◌, sym, ap, ap₂}
use Rattle.std.specs.List.{range_with_len}
use Rattle.std.specs.Prelude.{slice_get}
use Rattle.typed_tree.specs.declared.tree.Tree.{Tree}
use Rattle.domain.specs.Facts.{said_path}
use Rattle.checker_rows.specs.View.{numbers}
use Rattle.checker_state.specs.View.{said_reach}
use Rattle.checker_calls.specs.Exit.{is_own_path}
use Rattle.checker_calls.specs.View.{said_bindings}
use Rattle.checker_calls.specs.ExitView.{whole_rows}
use Rattle.checker_calls.proofs.GoneBehind.{not-own, part-rows, passed-rows, reached-rows}
use Rattle.checker_calls.proofs.exit.rows_outside.Goals as goal

pub returns-in-Passed : goal.returns-in-Passed
returns-in-Passed c =
    let tree = c.args.rows.now in
    let block = c.args.block in
    let bindings = said_bindings c.args.bindings in
    let path = said_path c.args.path.now in
    let other = sym (c.is_own_path.ensures ∙ ap (λ (t : Tree). is_own_path block path bindings (slice_get t.variables.items path.root)) c.tree.ensures)
    ∙ c.if-is_own_path.false in
    ap₂ range_with_len c.none-in-Passed.ensures.0 c.none-in-Passed.ensures.1 ∙ passed-rows c.in-Passed.field-0.now ∙ ap whole_rows c.in-Passed.ensures
    ∙ not-own tree block bindings path other

pub returns-then-is_entire : goal.returns-then-is_entire
returns-then-is_entire c =
    let tree = c.args.rows.now in
    let block = c.args.block in
    let bindings = said_bindings c.args.bindings in
    let path = said_path c.args.path.now in
    let other = sym (c.is_own_path.ensures ∙ ap (λ (t : Tree). is_own_path block path bindings (slice_get t.variables.items path.root)) c.tree.ensures)
    ∙ c.if-is_own_path.false in
    reached-rows (said_reach c.in-Reached.reach) (numbers c.in-Reached.span) (sym c.is_entire.ensures ∙ c.if-is_entire.true)
    ∙ ap whole_rows c.in-Reached.ensures ∙ not-own tree block bindings path other

pub returns-else-is_entire : goal.returns-else-is_entire
returns-else-is_entire c =
    let tree = c.args.rows.now in
    let block = c.args.block in
    let bindings = said_bindings c.args.bindings in
    let path = said_path c.args.path.now in
    let other = sym (c.is_own_path.ensures ∙ ap (λ (t : Tree). is_own_path block path bindings (slice_get t.variables.items path.root)) c.tree.ensures)
    ∙ c.if-is_own_path.false in
    ap₂ range_with_len c.none-else-is_entire.ensures.0 c.none-else-is_entire.ensures.1
    ∙ part-rows (said_reach c.in-Reached.reach) (numbers c.in-Reached.span) (sym c.is_entire.ensures ∙ c.if-is_entire.false)
    ∙ ap whole_rows c.in-Reached.ensures ∙ not-own tree block bindings path other
