use Rattle.std.proofs.Common.{w64, subst, sym, ◌∙◌}
use Rattle.std.proofs.lemmas.Int.{to_z-of_z}
use Rattle.domain.specs.Interval.{Interval, Includes}
use Rattle.domain.specs.Ranges.{joined-least, joined-present, end-min, end-max, as_is, same_min, same_max}
use Rattle.domain.proofs.interval.IntervalDomain.join.Goals as goal

pub invariant_of-result : goal.invariant_of-result
invariant_of-result c =
    let first =
    same_min _ _ _ _ (as_is c.first.result c.first.ensures.bounds) (as_is c.first-2.result c.first-2.ensures.bounds)
    in
    let last =
    same_max _ _ _ _ (as_is c.last.result c.last.ensures.bounds) (as_is c.last-2.result c.last-2.ensures.bounds)
    in (
      end-min c.first.result c.first-2.result _ c.first.ensures.bounds c.first-2.ensures.bounds
          (to_z-of_z w64 c.min.result (record { sfits = c.min.type_inv }) ∙ c.min.ensures.value ∙ first),
      end-max c.last.result c.last-2.result _ c.last.ensures.bounds c.last-2.ensures.bounds
          (to_z-of_z w64 c.max.result (record { sfits = c.max.type_inv }) ∙ c.max.ensures.value ∙ last),
    )

pub returns-clause-answer : goal.returns-clause-answer
returns-clause-answer c =
    let a = c.args.self.now in
    let b = c.args.other.now in
    let first =
    same_min _ _ a.first b.first
    (as_is c.first.result c.first.ensures.bounds ∙ c.first.ensures.value) (as_is c.first-2.result c.first-2.ensures.bounds ∙ c.first-2.ensures.value)
    in
    let last =
    same_max _ _ a.last b.last
    (as_is c.last.result c.last.ensures.bounds ∙ c.last.ensures.value) (as_is c.last-2.result c.last-2.ensures.bounds ∙ c.last-2.ensures.value)
    in
    joined-present a b _ (sym c.is_empty.ensures.answer ∙ c.if-is_empty.false) (sym c.is_empty-2.ensures.answer ∙ c.if-is_empty-2.false)
    (to_z-of_z w64 c.min.result (record { sfits = c.min.type_inv }) ∙ c.min.ensures.value ∙ first)
    (to_z-of_z w64 c.max.result (record { sfits = c.max.type_inv }) ∙ c.max.ensures.value ∙ last)

pub returns-clause-least : goal.returns-clause-least
returns-clause-least c = λ c' left right.
    subst (λ (i : Interval). Includes c' i) (sym (returns-clause-answer c)) (joined-least c.args.self.now c.args.other.now c' left right)
