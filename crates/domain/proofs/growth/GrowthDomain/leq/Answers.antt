use Rattle.std.proofs.Common.{◌≡◌, rules, sym, ◌∙◌}
use Rattle.domain.specs.Growths.{is_no_greater}
use Rattle.domain.proofs.Growths.{and-else, and-then}
use Rattle.domain.proofs.growth.GrowthDomain.leq.Goals as goal

pub returns-then-lower : goal.returns-then-lower
returns-then-lower c =
    let g = c.args.self.now in
    let h = c.args.other.now in
    let lower : c.is_no_greater-lower.result ≡ is_no_greater h.first h.first_step g.first g.first_step = search rules in
    let upper : c.is_no_greater-upper.result ≡ is_no_greater g.last g.last_step h.last h.last_step = search rules in
    and-then _ _ _ (sym lower ∙ c.if-lower.true) upper

pub returns-else-lower : goal.returns-else-lower
returns-else-lower c =
    let g = c.args.self.now in
    let h = c.args.other.now in
    let lower : c.is_no_greater-lower.result ≡ is_no_greater h.first h.first_step g.first g.first_step = search rules in
    and-else _ _ _ (sym lower ∙ c.if-lower.false) c.if-lower.false
