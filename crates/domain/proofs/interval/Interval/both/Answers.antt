use Rattle.std.proofs.Common.{◌≡◌, ◌&&◌, rules, subst, sym, ◌∙◌}
use Rattle.domain.specs.Interval.{Interval, HasMember, vacant, truth, is_true, both}
use Rattle.domain.specs.Ranges.{left-vacant, right-vacant, both-has}
use Rattle.domain.proofs.interval.Interval.both.Goals as goal
use Rattle.domain.proofs.interval.Interval.both.Goals.{then-is_empty-via-then-is_empty, then-is_empty-via-else-is_empty+then-is_empty-2}

pub returns-then-is_empty-clause-ends : goal.returns-then-is_empty-clause-ends
returns-then-is_empty-clause-ends c =
    let a = c.args.self.now in
    let b = c.args.other.now in
    let none : vacant ≡ both a b = elim c.then-is_empty.branch [
      | then-is_empty-via-then-is_empty w ↦ left-vacant a b _ (sym c.is_empty.ensures.answer ∙ w.if-is_empty.true)
      | then-is_empty-via-else-is_empty+then-is_empty-2 w ↦
          right-vacant a b _ (sym c.is_empty.ensures.answer ∙ w.if-is_empty.false) (sym w.is_empty-else-is_empty.ensures.answer ∙ w.if-is_empty-2.true)
    ] in
    none

pub returns-then-is_empty-clause-members : goal.returns-then-is_empty-clause-members
returns-then-is_empty-clause-members c = λ x y left right.
    subst (λ (i : Interval). HasMember i (truth (is_true x && is_true y))) (sym (returns-then-is_empty-clause-ends c))
    (both-has c.args.self.now c.args.other.now x y left right)

pub returns-clause-ends : goal.returns-clause-ends
returns-clause-ends c = search rules

pub returns-clause-members : goal.returns-clause-members
returns-clause-members c = λ x y left right.
    rw (returns-clause-ends c) (both-has c.args.self.now c.args.other.now x y left right)
