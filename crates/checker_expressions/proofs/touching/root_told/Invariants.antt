use Rattle.std.proofs.Common.{◌≡◌, drop}
use Rattle.checker_calls.specs.Actuals.{actual_of, bound_to}
use Rattle.checker_expressions.proofs.TouchedParts.{all_told}
use Rattle.checker_expressions.proofs.touching.root_told.Given as goal

-- what is left from here is what was to be done
abbrev pub invariant-loop-i : goal.invariant-loop-i
invariant-loop-i l =
    actual_of (bound_to (drop l.i l.parameters) (all_told (drop l.i l.actuals))) l.root ≡ actual_of (bound_to l.parameters (all_told l.actuals)) l.root
