use Rattle.std.proofs.Common.{SFits, w32, rules, ◌∙◌}
use Rattle.std.proofs.lemmas.Int.{to_z-of_z}
use Rattle.domain.proofs.Growths.{same_growth}
use Rattle.domain.specs.Ranges.{same_min, same_max}
use Rattle.domain.proofs.growth.GrowthDomain.join.Goals as goal

pub returns : goal.returns
returns c =
    let g = c.args.self.now in
    let h = c.args.other.now in
    let g-first : SFits w32 g.first = search rules in
    let g-first_step : SFits w32 g.first_step = search rules in
    let g-last : SFits w32 g.last = search rules in
    let g-last_step : SFits w32 g.last_step = search rules in
    let h-first : SFits w32 h.first = search rules in
    let h-first_step : SFits w32 h.first_step = search rules in
    let h-last : SFits w32 h.last = search rules in
    let h-last_step : SFits w32 h.last_step = search rules in
    same_growth _ _ _ _ _ _ _ _
    (to_z-of_z w32 c.min.result (record { sfits = c.min.type_inv }) ∙ c.min.ensures.value
    ∙ same_min _ _ g.first h.first (to_z-of_z w32 g.first g-first) (to_z-of_z w32 h.first h-first))
    (to_z-of_z w32 c.min-2.result (record { sfits = c.min-2.type_inv }) ∙ c.min-2.ensures.value
    ∙ same_min _ _ g.first_step h.first_step (to_z-of_z w32 g.first_step g-first_step) (to_z-of_z w32 h.first_step h-first_step))
    (to_z-of_z w32 c.max.result (record { sfits = c.max.type_inv }) ∙ c.max.ensures.value
    ∙ same_max _ _ g.last h.last (to_z-of_z w32 g.last g-last) (to_z-of_z w32 h.last h-last))
    (to_z-of_z w32 c.max-2.result (record { sfits = c.max-2.type_inv }) ∙ c.max-2.ensures.value
    ∙ same_max _ _ g.last_step h.last_step (to_z-of_z w32 g.last_step g-last_step) (to_z-of_z w32 h.last_step h-last_step))
