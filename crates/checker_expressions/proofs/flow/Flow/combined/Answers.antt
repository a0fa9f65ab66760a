use Rattle.std.proofs.Common.{ap, refl, sym, ◌∙◌}
use Rattle.domain.specs.Interval.{truth_values}
use Rattle.checker_state.specs.declared.value.Known.TheVariants.{Ordinal, Set}
use Rattle.checker_expressions.specs.Walk.{combined, give}
use Rattle.checker_expressions.proofs.Flows.{goes-as, goes-give}
use Rattle.checker_expressions.proofs.Held.{of-numbers}
use Rattle.checker_expressions.proofs.flow.Flow.combined.Goals as goal

pub returns-in-Plus : goal.returns-in-Plus
returns-in-Plus c = of-numbers _ c.args.left c.args.right c.in-Plus.is refl c.calculated_both.ensures

pub returns-in-Minus : goal.returns-in-Minus
returns-in-Minus c = of-numbers _ c.args.left c.args.right c.in-Minus.is refl c.calculated_both-in-Minus.ensures

pub returns-in-Times : goal.returns-in-Times
returns-in-Times c = of-numbers _ c.args.left c.args.right c.in-Times.is refl c.calculated_both-in-Times.ensures

pub returns-in-Div : goal.returns-in-Div
returns-in-Div c = of-numbers _ c.args.left c.args.right c.in-Div.is refl c.calculated_both-in-Div.ensures

pub returns-in-Mod : goal.returns-in-Mod
returns-in-Mod c = of-numbers _ c.args.left c.args.right c.in-Mod.is refl c.calculated_both-in-Mod.ensures

pub returns-in-And : goal.returns-in-And
returns-in-And c = of-numbers _ c.args.left c.args.right c.in-And.is refl c.calculated_both-in-And.ensures

pub returns-in-Or : goal.returns-in-Or
returns-in-Or c = of-numbers _ c.args.left c.args.right c.in-Or.is refl c.calculated_both-in-Or.ensures

pub returns-in-Relation : goal.returns-in-Relation
returns-in-Relation c = of-numbers _ c.args.left c.args.right c.in-Relation.is refl c.calculated_both-in-Relation.ensures

pub returns-in-Union : goal.returns-in-Union
returns-in-Union c =
    goes-as (ap (λ hull. give (Set hull)) c.of_sets.ensures ∙ sym (ap (λ o. combined o c.args.left c.args.right) c.in-Union.is))
    (goes-give (Set c.of_sets.result) c.args.self.now)

pub returns-in-Difference : goal.returns-in-Difference
returns-in-Difference c =
    goes-as (ap (λ hull. give (Set hull)) c.of_sets-in-Difference.ensures ∙ sym (ap (λ o. combined o c.args.left c.args.right) c.in-Difference.is))
    (goes-give (Set c.of_sets-in-Difference.result) c.args.self.now)

pub returns-in-Intersection : goal.returns-in-Intersection
returns-in-Intersection c =
    goes-as (ap (λ hull. give (Set hull)) c.of_sets-in-Intersection.ensures ∙ sym (ap (λ o. combined o c.args.left c.args.right) c.in-Intersection.is))
    (goes-give (Set c.of_sets-in-Intersection.result) c.args.self.now)

pub returns-in-SetRelation : goal.returns-in-SetRelation
returns-in-SetRelation c =
    goes-as (sym (ap (λ o. combined o c.args.left c.args.right) c.in-SetRelation.is)) (goes-give (Ordinal truth_values) c.args.self.now)

pub returns-in-In : goal.returns-in-In
returns-in-In c =
    goes-as (sym (ap (λ o. combined o c.args.left c.args.right) c.in-In.is)) (goes-give (Ordinal truth_values) c.args.self.now)
