use Rattle.std.proofs.Common.{ℤ, w64, int_lt, subst, ◌∙◌}
use Rattle.std.proofs.lemmas.Bool.Decides.{Decides-at, same_from_decides}
use Rattle.std.proofs.lemmas.Int.{to_z-of_z}
use Rattle.domain.specs.Numbers.{is_covered, IsFirstOther}
use Rattle.domain.specs.Ranges.{as_is, same_lt}
use Rattle.domain.proofs.Numbers.{Decides-covered, covered-behind}
use Rattle.domain.proofs.interval.Interval.is_covered.Goals as goal

pub returns-clause-members : goal.returns-clause-members
returns-clause-members c =
    let range = c.args.self.now in
    let numbers = c.args.numbers.now in
    let other = c.first_other.result in
    let first = as_is c.first.result c.first.ensures.bounds ∙ c.first.ensures.value in
    let last = as_is c.last.result c.last.ensures.bounds ∙ c.last.ensures.value in
    let behind = to_z-of_z w64 other (record { sfits = c.first_other.type_inv }) in
    Decides-at _ (int_lt range.last other) (same_lt _ _ range.last other last behind)
    (covered-behind range numbers other (subst (λ (n : ℤ). IsFirstOther n numbers other) first c.first_other.ensures))

pub returns-clause-answer : goal.returns-clause-answer
returns-clause-answer c =
    same_from_decides _ (is_covered c.args.self.now c.args.numbers.now) (returns-clause-members c)
    (Decides-covered c.args.self.now c.args.numbers.now)
