use Rattle.std.proofs.Common.{arith}
use Rattle.std.proofs.lemmas.Grind.{common_steps}
use Rattle.interpreter_state.proofs.text.write_integer.Goals as goal

pub returns : goal.returns
returns c = grind (arith, common_steps)
