use Rattle.std.proofs.Common.{rules}
use Rattle.domain.specs.Ranges.{between-members}
use Rattle.domain.proofs.interval.Interval.between.Goals as goal

pub returns-clause-ends : goal.returns-clause-ends
returns-clause-ends c = search rules

pub returns-clause-members : goal.returns-clause-members
returns-clause-members c = λ z. rw (returns-clause-ends c) (between-members c.args.first c.args.last z)
