use Rattle.std.proofs.Common.{refl, ap, subst, sym, ◌∙◌}
use Rattle.domain.specs.Interval.{Interval, HasMember, magnitude}
use Rattle.domain.specs.Ranges.{as_is, absolute-with_zero, absolute-apart, absolute-has}
use Rattle.domain.proofs.interval.Interval.absolute.Goals as goal

pub returns-then-has-clause-ends : goal.returns-then-has-clause-ends
returns-then-has-clause-ends c =
    absolute-with_zero c.args.self.now _
    (sym c.is_empty.ensures.answer ∙ c.if-is_empty.false) (sym c.has.ensures.answer ∙ c.if-has.true)
    refl (as_is c.size.result c.size.ensures.bounds ∙ c.size.ensures.value)

pub returns-then-has-clause-members : goal.returns-then-has-clause-members
returns-then-has-clause-members c = λ x has.
    subst (λ (i : Interval). HasMember i (magnitude x)) (sym (returns-then-has-clause-ends c)) (absolute-has c.args.self.now x has)

pub returns-clause-ends : goal.returns-clause-ends
returns-clause-ends c =
    let first = as_is c.first.result c.first.ensures.bounds ∙ c.first.ensures.value in
    let last = as_is c.last.result c.last.ensures.bounds ∙ c.last.ensures.value in
    absolute-apart c.args.self.now c.span.result _ _
    (sym c.is_empty.ensures.answer ∙ c.if-is_empty.false) (sym c.has.ensures.answer ∙ c.if-has.false) c.span.ensures
    (as_is c.magnitude.result c.magnitude.ensures.bounds ∙ c.magnitude.ensures.value ∙ ap magnitude first)
    (as_is c.magnitude-2.result c.magnitude-2.ensures.bounds ∙ c.magnitude-2.ensures.value ∙ ap magnitude last)

pub returns-clause-members : goal.returns-clause-members
returns-clause-members c = λ x has.
    rw (returns-clause-ends c) (absolute-has c.args.self.now x has)
