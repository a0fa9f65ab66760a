use Rattle.std.proofs.Common.{◌≡◌, ◌∙◌, ap, rules, to_z, of_z, w32, ℤ, Option, Some}
use Rattle.std.specs.Prelude.{option_map}
use Rattle.checker_state.specs.Bounds.{plus}
use Rattle.checker_state.specs.View.{said_bound}
use Rattle.checker_trail.specs.Trail.{seen}
use Rattle.checker_calls.specs.Actuals.{Actual}
use Rattle.checker_calls.specs.Entry.{limit_moved, limit_of_actual}
use Rattle.checker_calls.specs.View.{said_found, said_limit}
use Rattle.checker_calls.proofs.Limited.{said-plus}
use Rattle.checker_calls.proofs.limits.limit_above.Goals as goal

pub returns-in-None : goal.returns-in-None
returns-in-None c =
    let tree = c.args.state.now.table.now in
    let state = seen c.args.state.now in
    let same : to_z w32 (of_z w32 c.args.number) ≡ c.args.number = search rules in
    ap Some (said-plus tree state c.args.root c.args.number (said_limit c.of.result) (said_bound c.plus.result)
    (c.plus.ensures ∙ ap (plus c.args.root) same) c.of.ensures)
    ∙ ap (λ (found : Option Actual). option_map (limit_moved c.args.number) (limit_of_actual tree state c.args.root found)) c.in-None.ensures

pub returns-in-Some : goal.returns-in-Some
returns-in-Some c =
    let tree = c.args.state.now.table.now in
    let state = seen c.args.state.now in
    let same : to_z w32 (of_z w32 c.args.number) ≡ c.args.number = search rules in
    c.limit_of_actual.ensures
    ∙ ap (λ (n : ℤ). option_map (limit_moved n) (limit_of_actual tree state c.args.root (said_found (Some c.in-Some.actual)))) same
    ∙ ap (λ (found : Option Actual). option_map (limit_moved c.args.number) (limit_of_actual tree state c.args.root found)) c.in-Some.ensures
