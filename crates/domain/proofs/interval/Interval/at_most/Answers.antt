use Rattle.std.proofs.Common.{rules, ◌≡◌, sym, subst}
use Rattle.domain.specs.Interval.{Interval, HasMember, at_most}
use Rattle.domain.specs.Ranges.{at_most-has}
use Rattle.domain.proofs.interval.Interval.at_most.Goals as goal

pub returns-clause-members : goal.returns-clause-members
returns-clause-members c = λ x has near.
    let end = c.args.last in
    let ends : c.between_ends.result ≡ at_most end c.args.self.now = search rules in
    subst (λ (r : Interval). HasMember r x) (sym ends) (at_most-has end c.args.self.now x has near)
