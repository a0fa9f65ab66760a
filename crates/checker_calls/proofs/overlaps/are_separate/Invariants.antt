use Rattle.std.proofs.Common.{◌≡◌, drop, map}
use Rattle.checker_calls.specs.Actuals.{bound_to}
use Rattle.checker_calls.specs.Overlaps.{are_separate}
use Rattle.checker_calls.specs.View.{said_actual}
use Rattle.checker_calls.proofs.overlaps.are_separate.Given as goal

-- what is left from here is what was to be done
abbrev pub invariant-loop-i : goal.invariant-loop-i
invariant-loop-i l =
    are_separate l.pairs l.caller l.around (bound_to (drop l.i l.roots) (map said_actual (drop l.i l.actuals)))
    ≡ are_separate l.pairs l.caller l.around (bound_to l.roots (map said_actual l.actuals))
