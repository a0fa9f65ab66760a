use Rattle.domain.specs.Hulls.{sets-fit}
use Rattle.domain.proofs.hull.Hull.range.Goals as goal

pub returns-clause-sets : goal.returns-clause-sets
returns-clause-sets c = rw (← c.self.view_is) (λ set. sets-fit c.self.inside.range set c.self.invariant)
