use Rattle.stack_machine.proofs.Finishing.{ran_on}
use Rattle.stack_machine.proofs.laws.runs_on_bytes.Goals as goal

pub returns : goal.returns
returns c = ran_on
