use Rattle.domain.specs.Hulls.{difference-has_set}
use Rattle.domain.proofs.hull.Hull.difference.Goals as goal

pub returns-clause-sets : goal.returns-clause-sets
returns-clause-sets c = difference-has_set c.args.self.now
