use Rattle.types.proofs.Once.{components_once}
use Rattle.types.proofs.laws.components_stand_once.Goals as goal

pub returns : goal.returns
returns c = components_once
