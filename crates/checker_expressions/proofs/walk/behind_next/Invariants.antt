use Rattle.std.proofs.Common.{◌≡◌, drop}
use Rattle.checker_expressions.specs.Walk.{behind_next}
use Rattle.checker_expressions.proofs.walk.behind_next.Given as goal

abbrev pub invariant-loop-i : goal.invariant-loop-i
invariant-loop-i l = behind_next l.selectors ≡ behind_next (drop l.i l.selectors)
