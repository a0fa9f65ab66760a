use Rattle.std.proofs.Common.{map, drop}
use Rattle.checker_trail.specs.declared.state.State.{State as Kept}
use Rattle.checker_state.specs.Conditions.{all_refined, condition_of, conjunct_of}
use Rattle.checker_trail.specs.Trail.{Moves}
use Rattle.checker_trail.proofs.ConditionsOf.{ordinals_of}
use Rattle.checker_trail.proofs.state.State.+refine.Given as goal

abbrev pub decreases-refine : goal.decreases-refine
decreases-refine l = goal.size-refine l

-- with the operators that are left, what is known is what the whole condition tells
abbrev pub invariant-loop-link : goal.invariant-loop-link
invariant-loop-link l =
    (end : Kept) → Moves (all_refined l.truth (map (conjunct_of (ordinals_of l.self)) (drop l.link-index l.link-items))) l.self end
    → Moves ((condition_of (ordinals_of l.fn.self) l.condition).refined l.truth) l.fn.self end
