use Rattle.std.proofs.Common.{w64, sym, ◌∙◌}
use Rattle.std.proofs.lemmas.Int.{to_z-of_z}
use Rattle.domain.specs.Ranges.{as_is, same_le, has-low, has-below, member-tells}
use Rattle.domain.proofs.interval.Interval.has.Goals as goal

pub returns-then-first-number-clause-answer : goal.returns-then-first-number-clause-answer
returns-then-first-number-clause-answer c =
    let a = c.args.self.now in
    let z = c.args.number in
    let number = to_z-of_z w64 z c.ranges.number in
    let first = as_is c.first.result c.first.ensures.bounds ∙ c.first.ensures.value in
    let last = as_is c.last.result c.last.ensures.bounds ∙ c.last.ensures.value in
    has-low a z _ (sym (same_le _ _ a.first z first number) ∙ c.if-first-number.true) (same_le _ _ z a.last number last)

pub returns-then-first-number-clause-member : goal.returns-then-first-number-clause-member
returns-then-first-number-clause-member c = member-tells c.args.self.now c.args.number _ (returns-then-first-number-clause-answer c)

pub returns-else-first-number-clause-answer : goal.returns-else-first-number-clause-answer
returns-else-first-number-clause-answer c =
    let a = c.args.self.now in
    let z = c.args.number in
    let number = to_z-of_z w64 z c.ranges.number in
    let first = as_is c.first.result c.first.ensures.bounds ∙ c.first.ensures.value in
    has-below a z _ (same_le _ _ a.first z first number) c.if-first-number.false

pub returns-else-first-number-clause-member : goal.returns-else-first-number-clause-member
returns-else-first-number-clause-member c = member-tells c.args.self.now c.args.number _ (returns-else-first-number-clause-answer c)
