use Rattle.meaning.proofs.Depths.{goes_on}
use Rattle.meaning.proofs.laws.turns_go_on.Goals as goal

pub returns : goal.returns
returns c = goes_on
