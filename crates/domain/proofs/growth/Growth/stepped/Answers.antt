use Rattle.std.proofs.Common.{◌≡◌, ◌+ℤ◌, true, SFits, w32, w64, to_z, of_z, rules, ap, subst, sym, ◌∙◌}
use Rattle.std.proofs.lemmas.Int.{to_z-of_z}
use Rattle.domain.specs.Interval.{IsEnd, has_number}
use Rattle.domain.specs.Growths.{written}
use Rattle.domain.specs.GrowthLaws.{stepped-has}
use Rattle.domain.proofs.Growths.{stepped-some, sum-as_is, written-fits}
use Rattle.domain.specs.Ranges.{as_is}
use Rattle.domain.proofs.growth.Growth.stepped.Goals as goal

pub overflow_cast-result : goal.overflow_cast-result
overflow_cast-result c = search rules

pub overflow_cast-result-then-has-2 : goal.overflow_cast-result-then-has-2
overflow_cast-result-then-has-2 c = search rules

pub returns-then-has-2-clause-value : goal.returns-then-has-2-clause-value
returns-then-has-2-clause-value c =
    let g = c.args.self.now in
    let range = c.args.range.now in
    let first-fits : SFits w32 g.first = search rules in
    let last-fits : SFits w32 g.last = search rules in
    let first-step-fits : SFits w32 g.first_step = search rules in
    let last-step-fits : SFits w32 g.last_step = search rules in
    let first-sum = sum-as_is _ _ g.first range.first first-fits (subst IsEnd c.first.ensures.value c.first.ensures.bounds)
    (to_z-of_z w64 c.from.result (record { sfits = c.from.type_inv }) ∙ c.from.ensures ∙ to_z-of_z w32 g.first first-fits)
    (as_is c.first.result c.first.ensures.bounds ∙ c.first.ensures.value) in
    let last-sum = sum-as_is _ _ g.last range.last last-fits (subst IsEnd c.last.ensures.value c.last.ensures.bounds)
    (to_z-of_z w64 c.from-2.result (record { sfits = c.from-2.type_inv }) ∙ c.from-2.ensures ∙ to_z-of_z w32 g.last last-fits)
    (as_is c.last.result c.last.ensures.bounds ∙ c.last.ensures.value) in
    let low : has_number written (g.first +ℤ range.first) ≡ true =
    ap (has_number written) (sym first-sum) ∙ sym c.has.ensures.answer ∙ c.if-has.true in
    let high : has_number written (g.last +ℤ range.last) ≡ true =
    ap (has_number written) (sym last-sum) ∙ sym c.has-then-has.ensures.answer ∙ c.if-has-2.true in
    stepped-some range g _ _ _ _ low high
    (ap (λ z. to_z w32 (of_z w32 z)) first-sum ∙ to_z-of_z w32 (g.first +ℤ range.first) (written-fits (g.first +ℤ range.first) low))
    (to_z-of_z w32 g.first_step first-step-fits)
    (ap (λ z. to_z w32 (of_z w32 z)) last-sum ∙ to_z-of_z w32 (g.last +ℤ range.last) (written-fits (g.last +ℤ range.last) high))
    (to_z-of_z w32 g.last_step last-step-fits)

pub returns-then-has-2-clause-members : goal.returns-then-has-2-clause-members
returns-then-has-2-clause-members c = stepped-has c.args.range.now c.args.self.now _ (returns-then-has-2-clause-value c)

pub returns-else-has-clause-value : goal.returns-else-has-clause-value
returns-else-has-clause-value c = search rules
