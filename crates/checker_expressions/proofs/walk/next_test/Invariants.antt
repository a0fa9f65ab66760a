use Rattle.std.proofs.Common.{◌≡◌, drop}
use Rattle.checker_expressions.specs.Walk.{next_test}
use Rattle.checker_expressions.proofs.walk.next_test.Given as goal

abbrev pub invariant-loop-i : goal.invariant-loop-i
invariant-loop-i l = next_test l.selectors ≡ next_test (drop l.i l.selectors)
