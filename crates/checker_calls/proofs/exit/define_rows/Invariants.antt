use Rattle.std.specs.Prelude.{option_map}
use Rattle.checker_calls.specs.View.{said_within}
use Rattle.checker_trail.specs.Trail.{Moves}
use Rattle.checker_loops.proofs.Stepped.{rows_to}
use Rattle.checker_calls.specs.Actuals.{all_of_rows}
use Rattle.checker_calls.specs.Exit.{bearers_defined}
use Rattle.checker_calls.proofs.exit.define_rows.Given as goal

-- the rows so far
abbrev pub invariant-loop-row : goal.invariant-loop-row
invariant-loop-row l =
    Moves (bearers_defined l.rows (option_map said_within l.within) (all_of_rows (rows_to l.fn.span.first l.row))) l.fn.state l.state
