use Rattle.domain.specs.Hulls.{leq-tells}
use Rattle.domain.proofs.hull.HullDomain.leq.Goals as goal

pub returns-clause-exact : goal.returns-clause-exact
returns-clause-exact c =
    rw (← c.self.view_is, ← c.other.view_is)
    (leq-tells c.self.inside.range c.other.inside.range c.leq.result c.self.invariant c.leq.ensures.answer)
