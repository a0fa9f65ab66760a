use Rattle.std.proofs.Common.{◌≡◌, ◌∙◌, sym, ap, rules, to_z, of_z, w32, Some, inl, inr}
use Rattle.typed_tree.specs.Accesses.{origin_of}
use Rattle.checker_state.specs.View.{said_reach}
use Rattle.checker_calls.specs.Exit.{exit_bound_of}
use Rattle.checker_calls.specs.ExitView.{steady_at}
use Rattle.checker_calls.specs.View.{said_actual}
use Rattle.checker_calls.proofs.Origins.{root_is}
use Rattle.checker_calls.proofs.Steady.{steady-parts, steady-whole}
use Rattle.checker_calls.proofs.exit.exit_of_actual.Goals.{else-is_whole-via-then-is_whole+else-is_variable_row, else-is_whole-via-else-is_whole}
use Rattle.checker_calls.proofs.exit.exit_of_actual.Goals as goal

pub returns-then-is_variable_row : goal.returns-then-is_variable_row
returns-then-is_variable_row c = λ root.
    let tree = c.args.rows.now in
    let touches = c.args.touches.now in
    let access = c.in-Variable.access.now in
    let same : to_z w32 (of_z w32 c.args.number) ≡ c.args.number = search rules in
    c.steady.ensures ∙ ap (steady_at touches access.root) same
    ∙ sym
    (ap (λ actual. exit_bound_of tree touches root c.args.number (Some (said_actual actual))) c.in-Variable.is
    ∙ steady-whole tree touches c.args.number access.root (said_reach c.in-Variable.reach) (origin_of access) access.selectors.items (root_is access)
    (sym c.is_whole.ensures ∙ c.if-is_whole.true) (sym c.is_variable_row.ensures ∙ c.if-is_variable_row.true))

pub returns-else-is_whole : goal.returns-else-is_whole
returns-else-is_whole c = λ root.
    let tree = c.args.rows.now in
    let touches = c.args.touches.now in
    let access = c.in-Variable.access.now in
    sym
    (ap (λ actual. exit_bound_of tree touches root c.args.number (Some (said_actual actual))) c.in-Variable.is
    ∙ steady-parts tree touches c.args.number access.root (said_reach c.in-Variable.reach) (origin_of access) access.selectors.items (root_is access)
    (elim c.else-is_whole.branch [
      | else-is_whole-via-then-is_whole+else-is_variable_row w ↦ inl (sym w.is_variable_row.ensures ∙ w.if-is_variable_row.false)
      | else-is_whole-via-else-is_whole w ↦ inr (sym c.is_whole.ensures ∙ w.if-is_whole.false)
    ]))
