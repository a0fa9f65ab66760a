use Rattle.domain.specs.Hulls.{union-has_set}
use Rattle.domain.proofs.hull.Hull.union.Goals as goal

pub returns-clause-sets : goal.returns-clause-sets
returns-clause-sets c = rw c.join.ensures.answer (union-has_set c.args.self.now c.args.other.now)
