use Rattle.std.proofs.Common.{refl}
use Rattle.lexer.proofs.fault.LexFault.number.Goals as goal

pub returns-in-StringByte : goal.returns-in-StringByte
returns-in-StringByte c = rw c.in-StringByte.is refl
