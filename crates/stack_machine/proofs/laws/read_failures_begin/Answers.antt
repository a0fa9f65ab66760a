use Rattle.stack_machine.proofs.Failing.{read_failures_begin}
use Rattle.stack_machine.proofs.laws.read_failures_begin.Goals as goal

pub returns : goal.returns
returns c = read_failures_begin
