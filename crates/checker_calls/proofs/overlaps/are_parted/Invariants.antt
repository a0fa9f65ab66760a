use Rattle.std.proofs.Common.{◌≡◌, length}
use Rattle.checker_calls.specs.Overlaps.{are_parted}
use Rattle.checker_calls.specs.View.{said_way}
use Rattle.checker_calls.proofs.overlaps.are_parted.Given as goal

-- what is left is what was to be done
abbrev pub invariant-loop-step : goal.invariant-loop-step
invariant-loop-step l = are_parted (said_way l.one) (said_way l.other) ≡ are_parted (said_way l.initial.one) (said_way l.initial.other)

abbrev pub decreases-loop-step : goal.decreases-loop-step
decreases-loop-step l = length (said_way l.one)
