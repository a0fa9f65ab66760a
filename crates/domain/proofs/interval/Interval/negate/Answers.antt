use Rattle.std.proofs.Common.{rules, arith}
use Rattle.std.proofs.lemmas.Int.{ints}
use Rattle.domain.specs.Ranges.{negated-present}
use Rattle.domain.proofs.interval.Interval.negate.Goals as goal

pub returns-clause-ends : goal.returns-clause-ends
returns-clause-ends c = negated-present c.args.self.now _ _ (search rules) (omega (arith, ints)) (omega (arith, ints))
