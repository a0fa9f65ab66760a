use Rattle.meaning.proofs.Depths.{depths_are_enough}
use Rattle.meaning.proofs.laws.depths_are_enough.Goals as goal

pub returns : goal.returns
returns c = depths_are_enough
