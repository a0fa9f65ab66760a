use Rattle.std.proofs.Common.{ap, sym, ◌∙◌}
use Rattle.checker_state.specs.Values.{known_range}
use Rattle.checker_expressions.specs.Walk.{fitting, give, index_test}
use Rattle.checker_expressions.proofs.Flows.{goes-as, goes-give, goes-mapped}
use Rattle.checker_expressions.proofs.flow.Flow.index.Goals as goal

pub returns-in-None : goal.returns-in-None
returns-in-None c =
    let known = c.args.known in
    goes-as (ap give c.range.ensures ∙ sym (ap (λ fits. index_test fits known) c.in-None.is)) (goes-give c.range.result c.args.self.now)

pub returns-in-Some : goal.returns-in-Some
returns-in-Some c =
    let known = c.args.known in
    goes-as (sym (ap (λ test. index_test test known) c.in-Some.is))
    (goes-mapped (fitting c.in-Some.fits known) known_range c.fitting.ensures c.range-in-Some.ensures)
