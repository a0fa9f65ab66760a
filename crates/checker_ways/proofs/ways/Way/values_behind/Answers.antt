use Rattle.std.proofs.Common.{rules, ◌≡◌, subst, ap, sym, ◌∙◌, pos, ◌-ℤ◌, ◌+ℤ◌, to_z, of_z, w64}
use Rattle.std.proofs.lemmas.Int.{to_z-of_z}
use Rattle.domain.specs.Interval.{IsEnd, at_least, at_most, difference, held, sum}
use Rattle.checker_loops.specs.Ways.{single, values_behind}
use Rattle.checker_loops.proofs.Behind.{held-above, held-below}
use Rattle.checker_ways.proofs.ways.Way.values_behind.Goals as goal

pub returns-in-To : goal.returns-in-To
returns-in-To c =
    let last = c.args.self.now.last.values in
    let high = to_z w64 (of_z w64 (to_z w64 (of_z w64 c.last-end.result) -ℤ pos 1)) in
    let high_is : high ≡ last.last -ℤ pos 1 = search (rules, to_z-of_z) in
    let last_end : IsEnd last.last = subst IsEnd c.last-end.ensures.value c.last-end.ensures.bounds in
    let first_end : IsEnd c.args.range.first = search (rules, c.well_formed) in
    c.add.ensures.ends ∙ ap (λ r. held (sum r c.between-one.result)) c.at_most.ensures.ends
    ∙ ap (λ r. held (sum (at_most high c.args.range) r)) c.between-one.ensures.ends
    ∙ ap (λ n. held (sum (at_most n c.args.range) single)) high_is
    ∙ held-below last c.args.range last_end first_end
    ∙ ap (λ d. values_behind d last c.args.range) (sym c.in-To.is)

pub returns-in-DownTo : goal.returns-in-DownTo
returns-in-DownTo c =
    let last = c.args.self.now.last.values in
    let low = to_z w64 (of_z w64 (to_z w64 (of_z w64 c.first-end.result) +ℤ pos 1)) in
    let low_is : low ≡ last.first +ℤ pos 1 = search (rules, to_z-of_z) in
    let first_end : IsEnd last.first = subst IsEnd c.first-end.ensures.value c.first-end.ensures.bounds in
    let last_end : IsEnd c.args.range.last = search (rules, c.well_formed) in
    c.subtract.ensures.ends ∙ ap (λ r. held (difference r c.between-one.result)) c.at_least.ensures.ends
    ∙ ap (λ r. held (difference (at_least low c.args.range) r)) c.between-one.ensures.ends
    ∙ ap (λ n. held (difference (at_least n c.args.range) single)) low_is
    ∙ held-above last c.args.range first_end last_end
    ∙ ap (λ d. values_behind d last c.args.range) (sym c.in-DownTo.is)
