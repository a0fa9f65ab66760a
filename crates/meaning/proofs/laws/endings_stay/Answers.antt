use Rattle.meaning.proofs.Depths.{ending_stays}
use Rattle.meaning.proofs.laws.endings_stay.Goals as goal

pub returns : goal.returns
returns c = ending_stays
