use Rattle.std.proofs.Common.{◌≡◌, ◌∙◌, ap, rules, sym, to_z, of_z, w32}
use Rattle.std.proofs.lemmas.Bool.{both_ways}
use Rattle.typed_tree.specs.Accesses.{origin_of}
use Rattle.typed_tree.specs.declared.tree.Tree.{Tree}
use Rattle.checker_rows.specs.Rows.{is_variable_row}
use Rattle.checker_state.specs.Bounds.{plus}
use Rattle.checker_state.specs.View.{said_bound, said_reach}
use Rattle.checker_trail.specs.Trail.{seen}
use Rattle.checker_calls.specs.View.{said_actual, said_limit}
use Rattle.checker_calls.proofs.Limited.{actual-entire, actual-parts}
use Rattle.checker_calls.proofs.Origins.{root_is}
use Rattle.checker_calls.proofs.limits.limit_of_actual.Goals.{else-is_whole-via-then-is_whole+else-is_variable_row, else-is_whole-via-else-is_whole}
use Rattle.checker_calls.proofs.limits.limit_of_actual.Goals as goal

pub returns-then-is_variable_row : goal.returns-then-is_variable_row
returns-then-is_variable_row c =
    let tree = c.args.state.now.table.now in
    let state = seen c.args.state.now in
    let access = c.in-Variable.access.now in
    let same : to_z w32 (of_z w32 c.args.number) ≡ c.args.number = search rules in
    actual-entire tree state (said_reach c.in-Variable.reach) c.args.root (origin_of access) access.selectors.items c.args.number
    (said_actual c.args.actual.now) access.root (said_limit c.of.result) (said_bound c.plus.result) (root_is access) (ap said_actual c.in-Variable.is)
    (sym c.is_whole.ensures ∙ c.if-is_whole.true)
    (ap (λ (t : Tree). is_variable_row t access.root) (sym c.table-then-is_whole.ensures) ∙ sym c.is_variable_row.ensures ∙ c.if-is_variable_row.true)
    (c.plus.ensures ∙ ap (plus access.root) same) c.of.ensures

pub returns-else-is_whole : goal.returns-else-is_whole
returns-else-is_whole c =
    let tree = c.args.state.now.table.now in
    let state = seen c.args.state.now in
    let access = c.in-Variable.access.now in
    actual-parts tree state (said_reach c.in-Variable.reach) c.args.root (origin_of access) access.selectors.items c.args.number
    (said_actual c.args.actual.now) access.root (root_is access) (ap said_actual c.in-Variable.is)
    (elim c.else-is_whole.branch [
      | else-is_whole-via-then-is_whole+else-is_variable_row w ↦ λ _.
          ap (λ (t : Tree). is_variable_row t access.root) (sym w.table-then-is_whole.ensures) ∙ sym w.is_variable_row.ensures ∙ w.if-is_variable_row.false
      | else-is_whole-via-else-is_whole w ↦ λ whole. absurd (both_ways c.is_whole.result w.if-is_whole.false (c.is_whole.ensures ∙ whole))
    ])
