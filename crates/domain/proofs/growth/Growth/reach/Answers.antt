use Rattle.std.proofs.Common.{◌≡◌, SFits, w32, w64, to_z, of_z, rules, subst, sym, ◌∙◌}
use Rattle.std.proofs.lemmas.Int.{to_z-of_z}
use Rattle.domain.specs.Growths.{behind}
use Rattle.domain.specs.GrowthLaws.{reach-has}
use Rattle.domain.proofs.Growths.{end-small, nearest-greatest, nearest-least, same_behind}
use Rattle.domain.specs.Interval.{Interval, HasMember, nearest_end}
use Rattle.domain.specs.Ranges.{as_is, end-max, end-min, same_between, same_max, same_min}
use Rattle.domain.proofs.growth.Growth.reach.Goals as goal

pub between_ends-requires-clause-first_end : goal.between_ends-requires-clause-first_end
between_ends-requires-clause-first_end c =
    let g = c.args.self.now in
    let fits : SFits w32 g.first = search rules in
    let own = to_z-of_z w64 c.from.result (record { sfits = c.from.type_inv }) ∙ c.from.ensures ∙ to_z-of_z w32 g.first fits in
    let near = as_is c.nearest_behind.result c.nearest_behind.ensures.bounds in
    end-min g.first c.nearest_behind.result _ (end-small g.first fits) c.nearest_behind.ensures.bounds
    (to_z-of_z w64 c.min.result (record { sfits = c.min.type_inv }) ∙ c.min.ensures.value ∙ same_min _ _ g.first c.nearest_behind.result own near)

pub between_ends-requires-clause-last_end : goal.between_ends-requires-clause-last_end
between_ends-requires-clause-last_end c =
    let g = c.args.self.now in
    let fits : SFits w32 g.last = search rules in
    let own = to_z-of_z w64 c.from-2.result (record { sfits = c.from-2.type_inv }) ∙ c.from-2.ensures ∙ to_z-of_z w32 g.last fits in
    let near = as_is c.nearest_behind-2.result c.nearest_behind-2.ensures.bounds in
    end-max g.last c.nearest_behind-2.result _ (end-small g.last fits) c.nearest_behind-2.ensures.bounds
    (to_z-of_z w64 c.max.result (record { sfits = c.max.type_inv }) ∙ c.max.ensures.value ∙ same_max _ _ g.last c.nearest_behind-2.result own near)

pub returns-clause-ends : goal.returns-clause-ends
returns-clause-ends c =
    let g = c.args.self.now in
    let most = c.args.most in
    let first-fits : SFits w32 g.first = search rules in
    let last-fits : SFits w32 g.last = search rules in
    let first-step-fits : SFits w32 g.first_step = search rules in
    let last-step-fits : SFits w32 g.last_step = search rules in
    let own = to_z-of_z w64 c.from.result (record { sfits = c.from.type_inv }) ∙ c.from.ensures ∙ to_z-of_z w32 g.first first-fits in
    let own' = to_z-of_z w64 c.from-2.result (record { sfits = c.from-2.type_inv }) ∙ c.from-2.ensures ∙ to_z-of_z w32 g.last last-fits in
    let near : to_z w64 (of_z w64 c.nearest_behind.result) ≡ nearest_end (behind g.first g.first_step most) =
    as_is c.nearest_behind.result c.nearest_behind.ensures.bounds ∙ c.nearest_behind.ensures.value
    ∙ same_behind _ _ _ g.first g.first_step most
    (to_z-of_z w32 g.first first-fits) (to_z-of_z w32 g.first_step first-step-fits) (to_z-of_z w64 most c.ranges.most) in
    let near' : to_z w64 (of_z w64 c.nearest_behind-2.result) ≡ nearest_end (behind g.last g.last_step most) =
    as_is c.nearest_behind-2.result c.nearest_behind-2.ensures.bounds ∙ c.nearest_behind-2.ensures.value
    ∙ same_behind _ _ _ g.last g.last_step most
    (to_z-of_z w32 g.last last-fits) (to_z-of_z w32 g.last_step last-step-fits) (to_z-of_z w64 most c.ranges.most) in
    c.between_ends.ensures
    ∙ same_between _ _ _ _
    (to_z-of_z w64 c.min.result (record { sfits = c.min.type_inv }) ∙ c.min.ensures.value
    ∙ same_min _ _ g.first (nearest_end (behind g.first g.first_step most)) own near
    ∙ nearest-least g.first (behind g.first g.first_step most) first-fits)
    (to_z-of_z w64 c.max.result (record { sfits = c.max.type_inv }) ∙ c.max.ensures.value
    ∙ same_max _ _ g.last (nearest_end (behind g.last g.last_step most)) own' near'
    ∙ nearest-greatest g.last (behind g.last g.last_step most) last-fits)

pub returns-clause-members : goal.returns-clause-members
returns-clause-members c = λ k n has below fits.
    subst (λ (i : Interval). HasMember i n) (sym (returns-clause-ends c)) (reach-has c.args.most c.args.self.now k n has below fits)
