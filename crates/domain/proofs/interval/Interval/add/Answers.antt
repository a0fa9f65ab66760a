use Rattle.std.proofs.Common.{◌≡◌, arith, ap, subst, sym, ◌∙◌, ◌+ℤ◌}
use Rattle.std.proofs.lemmas.Int.{ints, clamps}
use Rattle.domain.specs.Interval.{Interval, HasMember, vacant, sum, held}
use Rattle.domain.specs.Ranges.{left-vacant, right-vacant, sum-present, sum-has, held-has}
use Rattle.domain.proofs.interval.Interval.add.Goals as goal
use Rattle.domain.proofs.interval.Interval.add.Goals.{then-is_empty-via-then-is_empty, then-is_empty-via-else-is_empty+then-is_empty-2}

pub returns-then-is_empty-clause-ends : goal.returns-then-is_empty-clause-ends
returns-then-is_empty-clause-ends c =
    let a = c.args.self.now in
    let b = c.args.other.now in
    let none : vacant ≡ sum a b = elim c.then-is_empty.branch [
      | then-is_empty-via-then-is_empty w ↦ left-vacant a b _ (sym c.is_empty.ensures.answer ∙ w.if-is_empty.true)
      | then-is_empty-via-else-is_empty+then-is_empty-2 w ↦
          right-vacant a b _ (sym c.is_empty.ensures.answer ∙ w.if-is_empty.false) (sym w.is_empty-else-is_empty.ensures.answer ∙ w.if-is_empty-2.true)
    ] in
    ap held none

pub returns-then-is_empty-clause-members : goal.returns-then-is_empty-clause-members
returns-then-is_empty-clause-members c = λ x y left right fits.
    subst (λ (i : Interval). HasMember i (x +ℤ y)) (sym (returns-then-is_empty-clause-ends c))
    (held-has (sum c.args.self.now c.args.other.now) (x +ℤ y) fits (sum-has c.args.self.now c.args.other.now x y left right))

pub returns-clause-ends : goal.returns-clause-ends
returns-clause-ends c =
    let first-is = ap (λ (i : Interval). i.first) c.held.ensures in
    let last-is = ap (λ (i : Interval). i.last) c.held.ensures in
    sum-present c.args.self.now c.args.other.now c.held.result
    (sym c.if-is_empty.false ∙ c.is_empty.ensures.answer) (sym c.if-is_empty-2.false ∙ c.is_empty-else-is_empty.ensures.answer)
    (omega (arith, ints, clamps, first-is)) (omega (arith, ints, clamps, last-is))

pub returns-clause-members : goal.returns-clause-members
returns-clause-members c = λ x y left right fits.
    rw (returns-clause-ends c) (held-has (sum c.args.self.now c.args.other.now) (x +ℤ y) fits (sum-has c.args.self.now c.args.other.now x y left right))
