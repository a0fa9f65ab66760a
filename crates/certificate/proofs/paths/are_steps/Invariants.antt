use Rattle.std.proofs.Common.{◌≡◌, length}
use Rattle.std.specs.List.{list_all}
use Rattle.certificate.specs.Building.{pieces}
use Rattle.certificate.specs.Paths.{is_piece}
use Rattle.certificate.proofs.paths.are_steps.Given as goal

abbrev pub invariant-loop-piece : goal.invariant-loop-piece
invariant-loop-piece l = list_all (is_piece l.elements) (pieces l.steps) ≡ list_all (is_piece l.elements) (pieces l.rest)

abbrev pub decreases-loop-piece : goal.decreases-loop-piece
decreases-loop-piece l = length l.rest
