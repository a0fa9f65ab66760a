use Rattle.std.proofs.Common.{rules, ◌≡◌, ◌∙◌, ap, ap₂, ℤ, ◌+ℤ◌, ◌-ℤ◌, to_z, of_z, w32, w64}
use Rattle.std.proofs.lemmas.Int.{to_z-of_z}
use Rattle.checker_state.specs.Conditions.{bound_at_least, bound_at_most, with_le, with_order}
use Rattle.checker_state.specs.State.{State}
use Rattle.checker_trail.specs.Trail.{seen}
use Rattle.checker_state.specs.View.{said_bound}
use Rattle.checker_trail.proofs.Ways.{moves-as, moves-then}
use Rattle.checker_trail.proofs.state.State.put_order.Goals as goal

pub returns : goal.returns
returns c =
    let state = seen c.args.self.now in
    let left = said_bound c.args.left in
    let right = said_bound c.args.right in
    let gap = c.args.gap in
    let same_gap : to_z w32 (of_z w32 gap) ≡ gap = search (rules, to_z-of_z) in
    let most : to_z w64 (of_z w64 c.difference.result) ≡ c.ends-last.result.last -ℤ gap = search (rules, to_z-of_z) in
    let least : to_z w64 (of_z w64 c.sum.result) ≡ c.ends-first.result.first +ℤ gap = search (rules, to_z-of_z) in
    moves-as (with_le left gap right) (moves-then c.put_variables.ensures (moves-then c.at_most.ensures c.at_least.ensures))
    (ap₂ (λ (n : ℤ) (s : State). bound_at_least right n s) (least ∙ ap (λ (n : ℤ). n +ℤ gap) c.ends-first.ensures.first_is)
    (ap₂ (λ (n : ℤ) (s : State). bound_at_most left n s) (most ∙ ap (λ (n : ℤ). n -ℤ gap) c.ends-last.ensures.last_is)
    (ap (λ (n : ℤ). with_order left n right state) same_gap)))
