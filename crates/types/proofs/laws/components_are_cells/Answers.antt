use Rattle.types.proofs.Laid.{length_components}
use Rattle.types.proofs.laws.components_are_cells.Goals as goal

pub returns : goal.returns
returns c = length_components
