use Rattle.std.proofs.Common.{map}
use Rattle.certificate.specs.Contents.{said_fact}
use Rattle.checker_state.specs.Loops.{with_claims}
use Rattle.checker_trail.specs.Trail.{Moves}
use Rattle.checker_loops.specs.View.{claim_at}
use Rattle.checker_loops.proofs.Stepped.{rows_to}
use Rattle.checker_loops.proofs.claims.claim_fact.Given as goal

-- the rows so far
abbrev pub invariant-loop-row : goal.invariant-loop-row
invariant-loop-row l = Moves (with_claims (map (claim_at l.rows (said_fact l.fact)) (rows_to l.initial.row l.row))) l.fn.state l.state
