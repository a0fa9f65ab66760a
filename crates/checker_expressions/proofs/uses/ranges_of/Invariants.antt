use Rattle.std.proofs.Common.{◌≡◌, ◌++◌}
use Rattle.checker_rows.specs.View.{numbers}
use Rattle.checker_trail.specs.Trail.{seen}
use Rattle.checker_expressions.specs.Walk.{ranges_of}
use Rattle.checker_expressions.proofs.RowUses.{rows_from}
use Rattle.checker_expressions.proofs.uses.ranges_of.Given as goal

-- the ranges of the rows that are left stand behind those that were taken
abbrev pub invariant-loop-row : goal.invariant-loop-row
invariant-loop-row l =
    ranges_of (seen l.state) (numbers l.fn.span) ≡ l.ranges.items ++ ranges_of (seen l.state) (rows_from l.row l.row-end)
