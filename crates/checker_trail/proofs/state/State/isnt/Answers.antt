use Rattle.std.proofs.Common.{rules, ◌≡◌, ◌∙◌, sym, ap, ℕ, ℤ, ◌-ℤ◌, Option, to_z, of_z, w64}
use Rattle.std.proofs.lemmas.Int.{to_z-of_z}
use Rattle.domain.specs.Interval.{Interval}
use Rattle.checker_state.specs.Conditions.{bound_isnt, narrowed, value_isnt, without_first, without_last}
use Rattle.checker_state.specs.State.{range_of}
use Rattle.checker_trail.specs.Trail.{seen}
use Rattle.checker_state.specs.View.{said_bound}
use Rattle.checker_trail.proofs.Ways.{moves-as}
use Rattle.checker_trail.proofs.state.State.isnt.Goals as goal

pub returns-in-Some : goal.returns-in-Some
returns-in-Some c =
    let state = seen c.args.self.now in
    let root = c.in-Some.root in
    let k = c.args.bound.number in
    let m = to_z w64 (of_z w64 c.difference-number.result) in
    let gap : m ≡ c.args.number -ℤ k = search (rules, to_z-of_z) in
    moves-as (bound_isnt (said_bound c.args.bound) c.args.number) c.narrow.ensures
    (ap (λ (r : Interval). narrowed root r state)
    (c.without_last-range.ensures ∙ ap (without_last m) (c.without_first.ensures ∙ ap (without_first m) c.range.ensures))
    ∙ ap (λ (n : ℤ). narrowed root (without_last n (without_first n (range_of state root))) state) gap
    ∙ ap (λ (of : Option ℕ). value_isnt of k c.args.number state) (sym c.in-Some.is))
