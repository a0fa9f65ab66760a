use Rattle.stack_machine.proofs.Growing.{composed}
use Rattle.stack_machine.proofs.laws.runs_compose.Goals as goal

pub returns : goal.returns
returns c = composed
