use Rattle.std.proofs.Common.{◌≡◌, ◌∙◌, ap, refl, subst, sym}
use Rattle.domain.specs.Interval.{Interval, common, held}
use Rattle.checker_state.specs.declared.value.Known.TheVariants.{Ordinal}
use Rattle.checker_expressions.specs.Walk.{shifted, within}
use Rattle.checker_expressions.proofs.Flows.{goes-as, goes-known}
use Rattle.checker_expressions.proofs.Held.{calculated-goes, shifted-held, tested-as}
use Rattle.checker_expressions.proofs.flow.Flow.operated.Goals as goal

pub returns-in-Plain : goal.returns-in-Plain
returns-in-Plain c =
    calculated-goes c.args.operation c.in-Plain.does c.args.known c.calculated.result c.range-range.result c.in-Plain.is c.range-range.ensures
    c.overflow_of.ensures c.calculated.ensures c.unless_overflow.ensures

pub returns-in-Tested : goal.returns-in-Tested
returns-in-Tested c =
    let it = c.in-Tested in
    let range = c.range-range.result in
    goes-as (sym (tested-as c.args.operation it.fits it.does c.args.known c.limits.result range it.is c.range-range.ensures c.limits.ensures))
    (goes-known (within c.limits.result it.fits.site range) (λ passed. Ordinal (shifted it.does passed)) (common range c.limits.result) c.within-passed.ensures
    (λ context. refl)
    (λ is. ap Ordinal (c.shifted.ensures
    ∙ subst (λ (r : Interval). held (shifted it.does r) ≡ shifted it.does r) (sym (is ∙ ap (common range) c.limits.ensures))
    (shifted-held range it.fits.range it.does))))
