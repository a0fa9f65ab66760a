use Rattle.std.proofs.Common.{◌≡◌, ◌≤◌, drop, length, map}
use Rattle.std.specs.Cmp.Lexicographic.{slice_cmp}
use Rattle.domain.specs.Facts.{said_step, step_order}
use Rattle.domain.proofs.facts.compare_steps.Given as goal

-- the steps so far are the same
abbrev pub invariant-loop-place : goal.invariant-loop-place
invariant-loop-place l =
    (slice_cmp step_order (map said_step l.steps) (map said_step l.others)
    ≡ slice_cmp step_order (map said_step (drop l.place l.steps)) (map said_step (drop l.place l.others)))
    × (l.place ≤ length l.others)
