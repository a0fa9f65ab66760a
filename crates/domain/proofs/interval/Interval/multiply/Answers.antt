use Rattle.std.proofs.Common.{◌≡◌, ap, subst, sym, ◌∙◌, ◌*ℤ◌}
use Rattle.domain.specs.Interval.{Interval, HasMember, vacant, product, held}
use Rattle.domain.specs.Ranges.{left-vacant, right-vacant, product-present, product-has, held-has, as_is, same_product}
use Rattle.domain.proofs.interval.Interval.multiply.Goals as goal
use Rattle.domain.proofs.interval.Interval.multiply.Goals.{then-is_empty-via-then-is_empty, then-is_empty-via-else-is_empty+then-is_empty-2}

pub returns-then-is_empty-clause-ends : goal.returns-then-is_empty-clause-ends
returns-then-is_empty-clause-ends c =
    let a = c.args.self.now in
    let b = c.args.other.now in
    let none : vacant ≡ product a b = elim c.then-is_empty.branch [
      | then-is_empty-via-then-is_empty w ↦ left-vacant a b _ (sym c.is_empty.ensures.answer ∙ w.if-is_empty.true)
      | then-is_empty-via-else-is_empty+then-is_empty-2 w ↦
          right-vacant a b _ (sym c.is_empty.ensures.answer ∙ w.if-is_empty.false) (sym w.is_empty-else-is_empty.ensures.answer ∙ w.if-is_empty-2.true)
    ] in
    ap held none

pub returns-then-is_empty-clause-members : goal.returns-then-is_empty-clause-members
returns-then-is_empty-clause-members c = λ x y left right fits.
    subst (λ (i : Interval). HasMember i (x *ℤ y)) (sym (returns-then-is_empty-clause-ends c))
    (held-has (product c.args.self.now c.args.other.now) (x *ℤ y) fits (product-has c.args.self.now c.args.other.now x y left right))

pub returns-clause-ends : goal.returns-clause-ends
returns-clause-ends c =
    let a = c.args.self.now in
    let b = c.args.other.now in
    let p = as_is c.first.result c.first.ensures.bounds ∙ c.first.ensures.value in
    let p' = as_is c.first-2.result c.first-2.ensures.bounds ∙ c.first-2.ensures.value in
    let q = as_is c.first-3.result c.first-3.ensures.bounds ∙ c.first-3.ensures.value in
    let q' = as_is c.last.result c.last.ensures.bounds ∙ c.last.ensures.value in
    let r = as_is c.last-2.result c.last-2.ensures.bounds ∙ c.last-2.ensures.value in
    let r' = as_is c.first-4.result c.first-4.ensures.bounds ∙ c.first-4.ensures.value in
    let s = as_is c.last-3.result c.last-3.ensures.bounds ∙ c.last-3.ensures.value in
    let s' = as_is c.last-4.result c.last-4.ensures.bounds ∙ c.last-4.ensures.value in
    product-present a b c.extent.result _ _ _ _
    (sym c.is_empty.ensures.answer ∙ c.if-is_empty.false) (sym c.is_empty-else-is_empty.ensures.answer ∙ c.if-is_empty-2.false) c.extent.ensures
    (as_is c.nearest_product.result c.nearest_product.ensures.bounds ∙ c.nearest_product.ensures.value ∙ same_product _ _ a.first b.first p p')
    (as_is c.nearest_product-2.result c.nearest_product-2.ensures.bounds ∙ c.nearest_product-2.ensures.value ∙ same_product _ _ a.first b.last q q')
    (as_is c.nearest_product-3.result c.nearest_product-3.ensures.bounds ∙ c.nearest_product-3.ensures.value ∙ same_product _ _ a.last b.first r r')
    (as_is c.nearest_product-4.result c.nearest_product-4.ensures.bounds ∙ c.nearest_product-4.ensures.value ∙ same_product _ _ a.last b.last s s')

pub returns-clause-members : goal.returns-clause-members
returns-clause-members c = λ x y left right fits.
    rw (returns-clause-ends c) (held-has (product c.args.self.now c.args.other.now) (x *ℤ y) fits (product-has c.args.self.now c.args.other.now x y left right))
