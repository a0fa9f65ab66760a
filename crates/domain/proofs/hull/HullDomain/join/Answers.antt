use Rattle.domain.specs.Hulls.{joined-least_sets}
use Rattle.domain.proofs.hull.HullDomain.join.Goals as goal

pub returns-clause-least : goal.returns-clause-least
returns-clause-least c =
    rw (← c.self.view_is, ← c.other.view_is, c.join.ensures.answer) (λ whole.
    joined-least_sets c.self.inside.range c.other.inside.range whole c.self.invariant c.other.invariant)
