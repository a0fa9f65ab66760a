use Rattle.std.proofs.Common.{rules, ◌≡◌, ◌∙◌, sym, ap, ap₂, ℕ, ◌-ℤ◌, Option, to_z, of_z, w64}
use Rattle.std.proofs.lemmas.Int.{to_z-of_z}
use Rattle.domain.specs.Interval.{Interval, at_least}
use Rattle.checker_state.specs.Conditions.{bound_at_least, narrowed, value_at_least}
use Rattle.checker_trail.specs.Trail.{seen}
use Rattle.checker_state.specs.View.{said_bound}
use Rattle.checker_trail.proofs.Ways.{moves-as}
use Rattle.checker_trail.proofs.state.State.at_least.Goals as goal

pub returns-in-Some : goal.returns-in-Some
returns-in-Some c =
    let state = seen c.args.self.now in
    let n = c.args.number in
    let k = c.args.bound.number in
    let gap : to_z w64 (of_z w64 c.difference.result) ≡ n -ℤ k = search (rules, to_z-of_z) in
    moves-as (bound_at_least (said_bound c.args.bound) n) c.narrow.ensures
    (ap (λ (r : Interval). narrowed c.in-Some.root r state) (c.at_least-range.ensures.ends ∙ ap₂ at_least gap c.range.ensures)
    ∙ ap (λ (of : Option ℕ). value_at_least of k n state) (sym c.in-Some.is))
