use Rattle.std.proofs.Common.{rules, ◌≡◌, ap, ◌∙◌, to_z, of_z, w64}
use Rattle.domain.specs.Interval.{at_least, at_most}
use Rattle.checker_state.specs.State.{bound_range}
use Rattle.checker_state.specs.View.{said_bound}
use Rattle.checker_trail.specs.Trail.{seen}
use Rattle.checker_ways.proofs.ways.near.Goals as goal

pub returns : goal.returns
returns c =
    let range = bound_range (seen c.args.state.now) (said_bound c.args.bound) in
    let low = to_z w64 (of_z w64 c.ends-ends.result.first) in
    let high = to_z w64 (of_z w64 c.ends-ends.result.last) in
    let low_is : low ≡ range.first = search rules in
    let high_is : high ≡ range.last = search rules in
    c.at_least.ensures.ends ∙ ap (at_least low) c.at_most.ensures.ends ∙ ap (λ n. at_least n (at_most high c.args.range)) low_is
    ∙ ap (λ n. at_least range.first (at_most n c.args.range)) high_is
