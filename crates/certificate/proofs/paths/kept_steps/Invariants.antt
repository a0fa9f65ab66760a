use Rattle.std.proofs.Common.{◌≡◌, ◌++◌, length, map}
use Rattle.domain.specs.Facts.{said_step}
use Rattle.certificate.specs.Building.{steps_in}
use Rattle.certificate.proofs.paths.kept_steps.Given as goal

abbrev pub invariant-loop-piece : goal.invariant-loop-piece
invariant-loop-piece l = steps_in l.steps ≡ map said_step l.kept.items ++ steps_in l.rest

abbrev pub decreases-loop-piece : goal.decreases-loop-piece
decreases-loop-piece l = length l.rest
