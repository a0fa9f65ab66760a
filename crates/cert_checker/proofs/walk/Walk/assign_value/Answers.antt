use Rattle.std.proofs.Common.{ap, ◌∙◌, sym, ℕ}
use Rattle.checker_state.specs.View.{said_form, said_reach}
use Rattle.checker_calls.proofs.Origins.{root_is}
use Rattle.cert_checker.specs.Steps.{value_step}
use Rattle.cert_checker.proofs.Assigned.{value-goes}
use Rattle.cert_checker.proofs.walk.Walk.assign_value.Goals as goal

pub returns : goal.returns
returns c =
    let assignment = c.args.assignment.now in
    let tree = c.table-rows.result.now in
    value-goes assignment (said_reach c.args.reach) c.args.notes.now c.args.passed tree (said_form c.bound_form-form.result) c.value_step-step.result
    c.range.result c.table-rows.ensures c.bound_form-form.ensures
    (c.value_step-step.ensures ∙ ap (λ (root : ℕ). value_step tree root assignment.value c.args.notes.now) (sym (root_is assignment.target)))
    c.range.ensures c.assign_to.ensures
