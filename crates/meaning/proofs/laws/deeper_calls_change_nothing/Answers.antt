use Rattle.meaning.proofs.Depths.{deep_effect}
use Rattle.meaning.proofs.laws.deeper_calls_change_nothing.Goals as goal

pub returns : goal.returns
returns c = deep_effect
