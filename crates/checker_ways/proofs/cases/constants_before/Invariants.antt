use Rattle.std.proofs.Common.{◌≡◌}
use Rattle.checker_loops.specs.Cases.{constants_before}
use Rattle.checker_ways.proofs.cases.constants_before.Given as goal

-- the constants of the rows so far
abbrev pub invariant-loop-i : goal.invariant-loop-i
invariant-loop-i l = l.found.items ≡ constants_before l.i l.rows
