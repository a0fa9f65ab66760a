use Rattle.std.proofs.Common.{rules}
use Rattle.meaning.proofs.value.Ordinal.modulus.Goals as goal

pub returns : goal.returns
returns c = search rules
