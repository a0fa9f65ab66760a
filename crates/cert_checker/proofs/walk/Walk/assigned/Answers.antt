use Rattle.std.proofs.Common.{◌∙◌}
use Rattle.checker_state.specs.View.{said_form}
use Rattle.cert_checker.proofs.Assigned.{assigned-goes}
use Rattle.cert_checker.proofs.walk.Walk.assigned.Goals as goal

pub returns-in-Ok : goal.returns-in-Ok
returns-in-Ok c =
    assigned-goes c.args.root c.deref.result.now (c.deref.ensures.value ∙ c.in-Ok.ensures) c.args.range (said_form c.args.form) c.args.step c.assign.ensures
