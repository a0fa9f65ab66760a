use Rattle.types.proofs.Scalars.{scalar_component}
use Rattle.types.proofs.laws.scalars_have_one_component.Goals as goal

pub returns : goal.returns
returns c = scalar_component
