use Rattle.std.proofs.Common.{◌≡◌, ℕ, Bool, List, map, drop, length}
use Rattle.checker_trail.specs.declared.state.State.{State as Kept}
use Rattle.checker_state.specs.Conditions.{all_tellings, condition_of, conjunct_of}
use Rattle.checker_trail.specs.Trail.{Moves}
use Rattle.checker_trail.proofs.ConditionsOf.{ordinals_of}
use Rattle.checker_expressions.specs.declared.noting.Noted.{Noted}
use Rattle.checker_sides.specs.Sides.{all_met}
use Rattle.checker_sides.proofs.sides.+meet_told.Given as goal

abbrev pub decreases-meet_told : goal.decreases-meet_told
decreases-meet_told l = goal.size-meet_told l

-- with the operators that are left, what is known is what the whole condition tells, and the notes behind it are left
abbrev pub invariant-loop-link : goal.invariant-loop-link
invariant-loop-link l = record {
  goes : (end : Kept)
      → Moves (all_met l.state.table.now (all_tellings (map (conjunct_of (ordinals_of l.state)) (drop l.link-index l.link-items)) l.own) l.left) l.state end
      → Moves (all_met l.fn.state.table.now ((condition_of (ordinals_of l.fn.state) l.condition).tellings l.fn.truth) l.notes) l.fn.state end;
  rest : (ordinal : ℕ → Bool) → drop (length (all_tellings (map (conjunct_of ordinal) (drop l.link-index l.link-items)) l.own)) l.left
      ≡ drop (length ((condition_of ordinal l.condition).tellings l.fn.truth)) l.notes;
}
