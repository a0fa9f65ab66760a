use Rattle.std.proofs.Common.{rules}
use Rattle.domain.specs.Ranges.{without_zero_end-has}
use Rattle.domain.proofs.interval.Interval.without_zero_end.Goals as goal

pub returns-clause-ends : goal.returns-clause-ends
returns-clause-ends c = search rules

pub returns-clause-members : goal.returns-clause-members
returns-clause-members c = λ x has present.
    rw (returns-clause-ends c) (without_zero_end-has c.args.self.now x has present)
