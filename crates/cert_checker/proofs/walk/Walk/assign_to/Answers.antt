use Rattle.std.proofs.Common.{◌∙◌, sym}
use Rattle.checker_state.specs.View.{said_form, said_reach}
use Rattle.cert_checker.proofs.Assigned.{component-goes, entire-goes}
use Rattle.cert_checker.proofs.walk.Walk.assign_to.Goals as goal

pub returns-then-is_whole_variable : goal.returns-then-is_whole_variable
returns-then-is_whole_variable c =
    entire-goes c.args.place c.args.target.now (said_reach c.args.reach) (said_form c.args.form) c.args.step c.args.range
    (sym c.is_whole_variable.ensures ∙ c.if-is_whole_variable.true) c.change.ensures c.assigned.ensures

pub returns-else-is_whole_variable : goal.returns-else-is_whole_variable
returns-else-is_whole_variable c =
    component-goes c.args.place c.args.target.now (said_reach c.args.reach) (said_form c.args.form) c.args.step c.args.range
    (sym c.is_whole_variable.ensures ∙ c.if-is_whole_variable.false) c.assign_component.ensures
