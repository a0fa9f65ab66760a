use Rattle.std.proofs.Common.{◌∙◌}
use Rattle.domain.specs.Ranges.{as_is, same_lt, vacant-tells}
use Rattle.domain.proofs.interval.IntervalDomain.is_empty.Goals as goal

pub returns-clause-answer : goal.returns-clause-answer
returns-clause-answer c =
    same_lt _ _ c.args.self.now.last c.args.self.now.first
    (as_is c.last.result c.last.ensures.bounds ∙ c.last.ensures.value) (as_is c.first.result c.first.ensures.bounds ∙ c.first.ensures.value)

pub returns-clause-vacant : goal.returns-clause-vacant
returns-clause-vacant c = vacant-tells c.args.self.now _ (returns-clause-answer c)
