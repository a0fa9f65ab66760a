use Rattle.std.proofs.Common.{◌≡◌, ◌∙◌, ap, ap₂, refl}
use Rattle.domain.specs.Interval.{is_included}
use Rattle.checker_rows.specs.Limits.{limits_of}
use Rattle.checker_state.specs.Values.{known_range, unless_none}
use Rattle.checker_expressions.specs.Walk.{limited, tested_value}
use Rattle.checker_expressions.proofs.Flows.{goes-as, goes-checked}
use Rattle.checker_expressions.proofs.flow.Flow.fitting.Goals as goal

pub returns : goal.returns
returns c =
    let fits = c.args.fits in
    let known = c.args.known in
    let passed = c.limited-passed.result in
    let closed = c.lies_in-closed.result in
    let passed_is : passed ≡ limited (limits_of fits.range) known = c.limited-passed.ensures ∙ ap (λ l. limited l known) c.limits-limits.ensures in
    let closed_is : closed ≡ is_included (known_range known) (limits_of fits.range) =
    c.lies_in-closed.ensures ∙ ap (is_included (known_range known)) c.limits-limits.ensures in
    goes-as (ap₂ (λ closed passed. tested_value closed fits.site passed) closed_is passed_is)
    (goes-checked (tested_value closed fits.site passed) closed fits.site (unless_none passed) passed (λ claims. refl) c.check.ensures c.unless_none.ensures)
