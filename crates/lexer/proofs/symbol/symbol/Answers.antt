use Rattle.std.proofs.Common.{rules}
use Rattle.lexer.proofs.symbol.symbol.Goals as goal

pub returns-in-Some : goal.returns-in-Some
returns-in-Some c = search rules
