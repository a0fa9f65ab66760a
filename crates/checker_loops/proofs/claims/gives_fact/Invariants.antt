use Rattle.std.proofs.Common.{◌≡◌, map, true}
use Rattle.certificate.specs.Contents.{said_fact}
use Rattle.checker_state.specs.Loops.{gives_all}
use Rattle.checker_state.specs.State.{table_of}
use Rattle.checker_trail.specs.Trail.{seen}
use Rattle.checker_loops.specs.View.{asked_at}
use Rattle.checker_loops.proofs.Stepped.{rows_to}
use Rattle.checker_loops.proofs.claims.gives_fact.Given as goal

-- the rows so far
abbrev pub invariant-loop-row : goal.invariant-loop-row
invariant-loop-row l =
    gives_all (table_of l.rows) (seen l.state) (map (asked_at l.rows (said_fact l.fact)) (rows_to l.initial.row l.row)) ≡ true
