use Rattle.std.proofs.lemmas.Int.{ints, to_z-of_z}
use Rattle.std.proofs.Common.{◌≡◌, int_div, arith, rules, subst, sym, ◌∙◌}
use Rattle.domain.specs.Interval.{Interval, HasMember, vacant, quotient}
use Rattle.domain.specs.Ranges.{left-vacant, right-vacant, quotient-present, quotient-by_zero, quotient-has, quotient-within_size, ends-true}
use Rattle.domain.proofs.interval.Interval.divide.Goals as goal
use Rattle.domain.proofs.interval.Interval.divide.Goals.{then-is_empty-via-then-is_empty, then-is_empty-via-else-is_empty+then-is_empty-2}

pub returns-then-is_empty-clause-ends : goal.returns-then-is_empty-clause-ends
returns-then-is_empty-clause-ends c =
    let a = c.args.self.now in
    let b = c.args.divisor.now in
    let none : vacant ≡ quotient a b = elim c.then-is_empty.branch [
      | then-is_empty-via-then-is_empty w ↦ left-vacant a b _ (sym c.is_empty.ensures.answer ∙ w.if-is_empty.true)
      | then-is_empty-via-else-is_empty+then-is_empty-2 w ↦
          right-vacant a b _ (sym c.is_empty.ensures.answer ∙ w.if-is_empty.false) (sym w.is_empty-else-is_empty.ensures.answer ∙ w.if-is_empty-2.true)
    ] in
    none

pub returns-then-is_empty-clause-members : goal.returns-then-is_empty-clause-members
returns-then-is_empty-clause-members c = λ x y left right present.
    subst (λ (i : Interval). HasMember i (int_div x y)) (sym (returns-then-is_empty-clause-ends c))
    (quotient-has c.args.self.now c.args.divisor.now x y left right present)

pub returns-then-has-clause-ends : goal.returns-then-has-clause-ends
returns-then-has-clause-ends c =
    quotient-by_zero c.args.self.now c.args.divisor.now _ _
    (sym c.is_empty.ensures.answer ∙ c.if-is_empty.false) (sym c.is_empty-else-is_empty.ensures.answer ∙ c.if-is_empty-2.false)
    (sym c.has.ensures.answer ∙ c.if-has.true)
    (omega (arith, ints)) (omega (arith, ints))

pub returns-then-has-clause-members : goal.returns-then-has-clause-members
returns-then-has-clause-members c = λ x y left right present.
    let within = quotient-within_size c.args.self.now x y left in
    (omega (arith, ints, within.0), omega (arith, ints, within.1))

pub quotient-requires-clause-divisor_present : goal.quotient-requires-clause-divisor_present
quotient-requires-clause-divisor_present c =
    let ends = ends-true c.args.divisor.now (sym c.is_empty-else-is_empty.ensures.answer ∙ c.if-is_empty-2.false) (sym c.has.ensures.answer ∙ c.if-has.false) in
    grind (arith, to_z-of_z, ends.0)

pub quotient-requires-2-clause-divisor_present : goal.quotient-requires-2-clause-divisor_present
quotient-requires-2-clause-divisor_present c =
    let ends = ends-true c.args.divisor.now (sym c.is_empty-else-is_empty.ensures.answer ∙ c.if-is_empty-2.false) (sym c.has.ensures.answer ∙ c.if-has.false) in
    grind (arith, to_z-of_z, ends.1)

pub quotient-requires-3-clause-divisor_present : goal.quotient-requires-3-clause-divisor_present
quotient-requires-3-clause-divisor_present c =
    let ends = ends-true c.args.divisor.now (sym c.is_empty-else-is_empty.ensures.answer ∙ c.if-is_empty-2.false) (sym c.has.ensures.answer ∙ c.if-has.false) in
    grind (arith, to_z-of_z, ends.0)

pub quotient-requires-4-clause-divisor_present : goal.quotient-requires-4-clause-divisor_present
quotient-requires-4-clause-divisor_present c =
    let ends = ends-true c.args.divisor.now (sym c.is_empty-else-is_empty.ensures.answer ∙ c.if-is_empty-2.false) (sym c.has.ensures.answer ∙ c.if-has.false) in
    grind (arith, to_z-of_z, ends.1)

pub returns-clause-ends : goal.returns-clause-ends
returns-clause-ends c =
    quotient-present c.args.self.now c.args.divisor.now c.extent.result
    c.quotient.result c.quotient-2.result c.quotient-3.result c.quotient-4.result
    (sym c.is_empty.ensures.answer ∙ c.if-is_empty.false) (sym c.is_empty-else-is_empty.ensures.answer ∙ c.if-is_empty-2.false)
    (sym c.has.ensures.answer ∙ c.if-has.false) (search rules)
    (search rules) (search rules) (search rules) (search rules)

pub returns-clause-members : goal.returns-clause-members
returns-clause-members c = λ x y left right present.
    rw (returns-clause-ends c) (quotient-has c.args.self.now c.args.divisor.now x y left right present)
