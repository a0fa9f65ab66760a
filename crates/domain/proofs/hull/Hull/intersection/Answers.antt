use Rattle.domain.specs.Hulls.{intersection-has_set}
use Rattle.domain.proofs.hull.Hull.intersection.Goals as goal

pub returns-clause-sets : goal.returns-clause-sets
returns-clause-sets c = rw c.meet.ensures.answer (intersection-has_set c.args.self.now c.args.other.now)
