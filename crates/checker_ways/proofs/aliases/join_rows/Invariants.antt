use Rattle.checker_trail.specs.Trail.{Moves}
use Rattle.checker_loops.proofs.Stepped.{rows_to}
use Rattle.checker_loops.specs.Aliases.{rows_joined}
use Rattle.checker_ways.specs.View.{said_stored}
use Rattle.checker_ways.proofs.aliases.join_rows.Given as goal

-- the rows so far
abbrev pub invariant-loop-row : goal.invariant-loop-row
invariant-loop-row l = Moves (rows_joined l.fn.state.table.now (said_stored l.stored) (rows_to l.initial.row l.row)) l.fn.state l.state
