use Rattle.std.proofs.Common.{sym, ◌∙◌}
use Rattle.domain.specs.Ranges.{complement-present, complement-has}
use Rattle.domain.proofs.interval.Interval.complement.Goals as goal

pub returns-clause-ends : goal.returns-clause-ends
returns-clause-ends c =
    complement-present c.args.self.now c.truths.result c.is_never_true.result c.is_always_true.result
    (sym c.is_empty.ensures.answer ∙ c.if-is_empty.false) c.is_never_true.ensures c.is_always_true.ensures c.truths.ensures

pub returns-clause-members : goal.returns-clause-members
returns-clause-members c = λ x has.
    rw (returns-clause-ends c) (complement-has c.args.self.now x has)
