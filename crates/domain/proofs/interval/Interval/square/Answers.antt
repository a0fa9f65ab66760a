use Rattle.std.proofs.Common.{◌∙◌, sym, ◌*ℤ◌}
use Rattle.domain.specs.Interval.{squared, size}
use Rattle.domain.specs.Ranges.{squared-present, squared-with_zero, squared-has, held-has, as_is, same_product}
use Rattle.domain.proofs.interval.Interval.square.Goals as goal

pub returns-then-not-has-clause-ends : goal.returns-then-not-has-clause-ends
returns-then-not-has-clause-ends c =
    let a = c.args.self.now in
    let first = as_is c.first.result c.first.ensures.bounds ∙ c.first.ensures.value in
    let first' = as_is c.first-then-not-has.result c.first-then-not-has.ensures.bounds ∙ c.first-then-not-has.ensures.value in
    let last = as_is c.last.result c.last.ensures.bounds ∙ c.last.ensures.value in
    let last' = as_is c.last-then-not-has.result c.last-then-not-has.ensures.bounds ∙ c.last-then-not-has.ensures.value in
    squared-present a c.span.result _ _
    (sym c.is_empty.ensures.answer ∙ c.if-is_empty.false) (sym c.has.ensures.answer ∙ c.if-not-has.true) c.span.ensures
    (as_is c.nearest_product.result c.nearest_product.ensures.bounds ∙ c.nearest_product.ensures.value ∙ same_product _ _ a.first a.first first first')
    (as_is c.nearest_product-then-not-has.result c.nearest_product-then-not-has.ensures.bounds ∙ c.nearest_product-then-not-has.ensures.value
    ∙ same_product _ _ a.last a.last last last')

pub returns-then-not-has-clause-members : goal.returns-then-not-has-clause-members
returns-then-not-has-clause-members c = λ x has fits.
    rw (returns-then-not-has-clause-ends c) (held-has (squared c.args.self.now) (x *ℤ x) fits (squared-has c.args.self.now x has))

pub returns-clause-ends : goal.returns-clause-ends
returns-clause-ends c =
    let a = c.args.self.now in
    let greatest = as_is c.size-size.result c.size-size.ensures.bounds ∙ c.size-size.ensures.value in
    squared-with_zero a c.span-2.result _
    (sym c.is_empty.ensures.answer ∙ c.if-is_empty.false) (sym c.has.ensures.answer ∙ c.if-not-has.false) c.span-2.ensures
    (as_is c.nearest_product-2.result c.nearest_product-2.ensures.bounds ∙ c.nearest_product-2.ensures.value ∙ same_product _ _ (size a)
    (size a) greatest greatest)

pub returns-clause-members : goal.returns-clause-members
returns-clause-members c = λ x has fits.
    rw (returns-clause-ends c) (held-has (squared c.args.self.now) (x *ℤ x) fits (squared-has c.args.self.now x has))
