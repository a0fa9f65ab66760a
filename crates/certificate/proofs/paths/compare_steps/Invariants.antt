use Rattle.std.proofs.Common.{◌≡◌, length}
use Rattle.std.specs.Cmp.Lexicographic.{slice_cmp}
use Rattle.domain.specs.Facts.{step_order}
use Rattle.certificate.specs.Building.{steps_in}
use Rattle.certificate.proofs.paths.compare_steps.Given as goal

abbrev pub invariant-loop-piece : goal.invariant-loop-piece
invariant-loop-piece l = slice_cmp step_order (steps_in l.steps) (steps_in l.others) ≡ slice_cmp step_order (steps_in l.rest) (steps_in l.other_rest)

abbrev pub decreases-loop-piece : goal.decreases-loop-piece
decreases-loop-piece l = length l.rest
