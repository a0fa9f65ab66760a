use Rattle.std.proofs.Common.{rules, ◌≡◌, ap, sym, ◌∙◌, to_z, of_z, w64}
use Rattle.domain.specs.Interval.{at_least, at_most}
use Rattle.checker_loops.specs.Ways.{on_way}
use Rattle.checker_ways.proofs.ways.Way.values.Goals as goal

pub returns-in-To : goal.returns-in-To
returns-in-To c =
    let first = c.args.self.now.first.values in
    let last = c.args.self.now.last.values in
    let low = to_z w64 (of_z w64 c.first.result) in
    let high = to_z w64 (of_z w64 c.last.result) in
    let low_is : low ≡ first.first = search rules in
    let high_is : high ≡ last.last = search rules in
    c.at_least.ensures.ends ∙ ap (at_least low) c.at_most.ensures.ends ∙ ap (λ n. at_least n (at_most high c.args.range)) low_is
    ∙ ap (λ n. at_least first.first (at_most n c.args.range)) high_is ∙ ap (λ d. on_way d first last c.args.range) (sym c.in-To.is)

pub returns-in-DownTo : goal.returns-in-DownTo
returns-in-DownTo c =
    let first = c.args.self.now.first.values in
    let last = c.args.self.now.last.values in
    let low = to_z w64 (of_z w64 c.first-in-DownTo.result) in
    let high = to_z w64 (of_z w64 c.last-in-DownTo.result) in
    let low_is : low ≡ last.first = search rules in
    let high_is : high ≡ first.last = search rules in
    c.at_least-in-DownTo.ensures.ends ∙ ap (at_least low) c.at_most-in-DownTo.ensures.ends
    ∙ ap (λ n. at_least n (at_most high c.args.range)) low_is ∙ ap (λ n. at_least last.first (at_most n c.args.range)) high_is
    ∙ ap (λ d. on_way d first last c.args.range) (sym c.in-DownTo.is)
