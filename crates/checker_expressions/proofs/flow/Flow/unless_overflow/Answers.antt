use Rattle.std.proofs.Common.{ap, refl, sym}
use Rattle.checker_rows.specs.Limits.{integer}
use Rattle.checker_state.specs.declared.value.Known.TheVariants.{Ordinal}
use Rattle.checker_expressions.specs.Walk.{unless_overflow, within}
use Rattle.checker_expressions.proofs.Flows.{goes-as, goes-give, goes-mapped}
use Rattle.checker_expressions.proofs.flow.Flow.unless_overflow.Goals as goal

pub returns-in-None : goal.returns-in-None
returns-in-None c =
    let range = c.args.range in
    goes-as (sym (ap (λ overflow. unless_overflow overflow range) c.in-None.is)) (goes-give (Ordinal range) c.args.self.now)

pub returns-in-Some : goal.returns-in-Some
returns-in-Some c =
    let range = c.args.range in
    goes-as (sym (ap (λ overflow. unless_overflow overflow range) c.in-Some.is))
    (goes-mapped (within integer c.in-Some.site range) Ordinal c.within.ensures refl)
