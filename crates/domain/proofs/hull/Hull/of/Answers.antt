use Rattle.domain.specs.Hulls.{hull_of-sets, hull_of-has_one}
use Rattle.domain.proofs.hull.Hull.of.Goals as goal

pub returns-clause-sets : goal.returns-clause-sets
returns-clause-sets c = rw c.meet.ensures.answer (hull_of-sets c.args.range.now)

pub returns-clause-one : goal.returns-clause-one
returns-clause-one c = rw c.meet.ensures.answer (hull_of-has_one c.args.range.now)
