use Rattle.std.proofs.Common.{rules, ◌≡◌, sym, subst}
use Rattle.domain.specs.Interval.{Interval, HasMember, at_least}
use Rattle.domain.specs.Ranges.{at_least-has}
use Rattle.domain.proofs.interval.Interval.at_least.Goals as goal

pub returns-clause-members : goal.returns-clause-members
returns-clause-members c = λ x has near.
    let end = c.args.first in
    let ends : c.between_ends.result ≡ at_least end c.args.self.now = search rules in
    subst (λ (r : Interval). HasMember r x) (sym ends) (at_least-has end c.args.self.now x has near)
