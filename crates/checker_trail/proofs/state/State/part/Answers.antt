use Rattle.std.proofs.Common.{◌≡◌, ap₂, ℤ}
use Rattle.domain.specs.Interval.{Interval}
use Rattle.checker_state.specs.Bounds.{Bound}
use Rattle.checker_state.specs.Conditions.{unlike}
use Rattle.checker_state.specs.State.{State, bound_range}
use Rattle.checker_trail.specs.Trail.{seen}
use Rattle.checker_state.specs.View.{AreEnds, said_bound}
use Rattle.checker_state.specs.declared.ends.Ends.{Ends}
use Rattle.checker_trail.proofs.Ways.{moves-as, moves-then}
use Rattle.checker_trail.proofs.state.State.part.Goals as goal

ends-are : (ends : Ends) (range : Interval) → AreEnds ends range → (bound : Bound) (state : State)
    → unlike bound (record { first = ends.first; last = ends.last }) state ≡ unlike bound range state
ends-are ends range are bound state =
    ap₂ (λ (first last : ℤ). unlike bound (record { first = first; last = last }) state) are.first_is are.last_is

pub returns : goal.returns
returns c =
    let left = said_bound c.args.left in
    let right = said_bound c.args.right in
    let first = seen c.args.self.now in
    let second = seen c.unlike.new.self in
    moves-then
    (moves-as (λ (state : State). unlike left (bound_range state right) state) c.unlike.ensures
    (ends-are c.ends-ends.result (bound_range first right) c.ends-ends.ensures left first))
    (moves-as (λ (state : State). unlike right (bound_range state left) state) c.unlike-2.ensures
    (ends-are c.ends-ends-2.result (bound_range second left) c.ends-ends-2.ensures right second))
