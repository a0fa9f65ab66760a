use Rattle.domain.specs.Hulls.{common-sets}
use Rattle.domain.proofs.hull.HullDomain.meet.Goals as goal

pub returns-clause-exact : goal.returns-clause-exact
returns-clause-exact c =
    rw (← c.self.view_is, ← c.other.view_is, c.meet.ensures.answer) (common-sets c.self.inside.range c.other.inside.range)
