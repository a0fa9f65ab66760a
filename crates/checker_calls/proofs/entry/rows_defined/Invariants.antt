use Rattle.std.proofs.Common.{◌≡◌, true}
use Rattle.std.specs.List.{list_all}
use Rattle.checker_state.specs.State.{table_of}
use Rattle.checker_state.specs.Stores.{gives_reached}
use Rattle.checker_state.specs.View.{said_reach}
use Rattle.checker_trail.specs.Trail.{seen}
use Rattle.checker_loops.proofs.Stepped.{rows_to}
use Rattle.checker_calls.proofs.entry.rows_defined.Given as goal

-- the rows so far
abbrev pub invariant-loop-row : goal.invariant-loop-row
invariant-loop-row l = list_all (gives_reached (table_of l.state.table.now) (seen l.state) (said_reach l.reach)) (rows_to l.initial.row l.row) ≡ true
