use Rattle.std.proofs.Common.{◌≡◌, ◌≤◌, ◌+◌}
use Rattle.checker_trail.specs.Trail.{seen}
use Rattle.checker_expressions.specs.Walk.{all_joined, ranges_of}
use Rattle.checker_expressions.proofs.RowUses.{rows_from}
use Rattle.checker_expressions.proofs.uses.joined_ranges.Given as goal

-- the rows from the last one down
abbrev pub invariant-loop-row : goal.invariant-loop-row
invariant-loop-row l = record {
  after_first : l.fn.span.first ≤ l.row;
  joined : l.range ≡ all_joined (ranges_of (seen l.state) (rows_from l.row (l.fn.span.first + l.fn.span.count)));
}
