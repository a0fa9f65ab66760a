use Rattle.meaning.proofs.Depths.{output_extends}
use Rattle.meaning.proofs.laws.turns_extend_the_output.Goals as goal

pub returns : goal.returns
returns c = output_extends
