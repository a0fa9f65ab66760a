use Rattle.interpreter_state.proofs.Inputs.{completed_behind}
use Rattle.interpreter_state.proofs.input.Input.new.Goals as goal

pub returns-in-Some : goal.returns-in-Some
returns-in-Some c = completed_behind c.args.bytes.now _ c.in-Some.last.now c.in-Some.ensures.cases.0
