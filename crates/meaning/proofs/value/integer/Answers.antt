use Rattle.std.proofs.Common.{rules}
use Rattle.meaning.proofs.value.integer.Goals as goal

pub returns-then-number-le2147483647 : goal.returns-then-number-le2147483647
returns-then-number-le2147483647 c = search rules
