use Rattle.std.proofs.Common.{◌≡◌, ◌+ℤ◌, rules, sym, ◌∙◌}
use Rattle.domain.specs.Growths.{is_no_greater}
use Rattle.domain.specs.GrowthLaws.{within-next}
use Rattle.domain.proofs.Growths.{and-else, and-then}
use Rattle.domain.proofs.growth.Growth.is_within_next.Goals as goal

pub returns-then-lower-clause-answer : goal.returns-then-lower-clause-answer
returns-then-lower-clause-answer c =
    let g = c.args.self.now in
    let h = c.args.begun.now in
    let lower : c.is_no_greater-lower.result ≡ is_no_greater (h.first +ℤ h.first_step) h.first_step g.first g.first_step = search rules in
    let upper : c.is_no_greater-upper.result ≡ is_no_greater g.last g.last_step (h.last +ℤ h.last_step) h.last_step = search rules in
    and-then _ _ _ (sym lower ∙ c.if-lower.true) upper

pub returns-then-lower-clause-members : goal.returns-then-lower-clause-members
returns-then-lower-clause-members c = within-next c.args.self.now c.args.begun.now _ (returns-then-lower-clause-answer c)

pub returns-else-lower-clause-answer : goal.returns-else-lower-clause-answer
returns-else-lower-clause-answer c =
    let g = c.args.self.now in
    let h = c.args.begun.now in
    let lower : c.is_no_greater-lower.result ≡ is_no_greater (h.first +ℤ h.first_step) h.first_step g.first g.first_step = search rules in
    and-else _ _ _ (sym lower ∙ c.if-lower.false) c.if-lower.false
