use Rattle.std.proofs.Common.{◌≡◌}
use Rattle.checker_rows.specs.View.{numbers}
use Rattle.checker_state.specs.View.{said_reach}
use Rattle.checker_expressions.specs.View.{state_of}
use Rattle.checker_expressions.specs.Walk.{is_covered}
use Rattle.checker_expressions.proofs.RowUses.{rows_from}
use Rattle.checker_expressions.proofs.flow.Flow.covers.Given as goal

-- whether all rows are covered turns on those that are left
abbrev pub invariant-loop-row : goal.invariant-loop-row
invariant-loop-row l =
    is_covered l.self.state.table.now (state_of l.self) (said_reach l.reach) (numbers l.fn.span)
    ≡ is_covered l.self.state.table.now (state_of l.self) (said_reach l.reach) (rows_from l.row l.row-end)
