use Rattle.std.proofs.Common.{◌≡◌, drop, map}
use Rattle.checker_calls.specs.Actuals.{actual_of, bound_to}
use Rattle.checker_calls.specs.View.{said_actual}
use Rattle.checker_calls.proofs.actuals.Bindings.actual.Given as goal

-- what is left from here is what was to be done
abbrev pub invariant-loop-i : goal.invariant-loop-i
invariant-loop-i l =
    actual_of (bound_to (drop l.i l.roots) (map said_actual (drop l.i l.actuals))) l.root
    ≡ actual_of (bound_to l.roots (map said_actual l.actuals)) l.root
