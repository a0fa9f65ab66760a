use Rattle.std.proofs.Common.{refl}
use Rattle.lexer.proofs.fault.LexFault.place.Goals as goal

pub returns-in-Memory : goal.returns-in-Memory
returns-in-Memory c = rw c.in-Memory.is refl
