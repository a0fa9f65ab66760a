use Rattle.std.proofs.Common.{rules}
use Rattle.stack_machine.proofs.store.Store.modulo.Goals as goal

pub returns : goal.returns
returns c = search rules
