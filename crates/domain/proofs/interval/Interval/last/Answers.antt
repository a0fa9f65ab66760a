use Rattle.std.proofs.Common.{ap, ◌∙◌}
use Rattle.domain.specs.Interval.{Interval}
use Rattle.domain.specs.Ranges.{as_is}
use Rattle.domain.proofs.interval.Interval.last.Goals as goal

pub returns-clause-value : goal.returns-clause-value
returns-clause-value c = as_is c.self.inside.last c.self.invariant.1 ∙ ap (λ (i : Interval). i.last) c.self.view_is
