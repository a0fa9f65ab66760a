use Rattle.std.proofs.Common.{◌≡◌, ◌++◌, drop, map, take}
use Rattle.checker_calls.specs.Actuals.{after_call}
use Rattle.checker_calls.specs.View.{said_actual}
use Rattle.checker_calls.proofs.actuals.settle.Given as goal

-- so far
abbrev pub invariant-loop-i : goal.invariant-loop-i
invariant-loop-i l =
    map said_actual l.actuals.items ≡ map after_call (take l.i (map said_actual l.fn.actuals.items)) ++ drop l.i (map said_actual l.fn.actuals.items)
