use Rattle.std.proofs.Common.{◌≡◌, ℕ, cond}
use Rattle.domain.specs.Interval.{common}
use Rattle.checker_state.specs.Loops.{is_among}
use Rattle.checker_loops.proofs.Stepped.{rows_to}
use Rattle.checker_calls.specs.ExitView.{known_at}
use Rattle.checker_calls.proofs.exit_claims.know_rows.Given as goal

-- the rows so far
abbrev pub invariant-loop-row : goal.invariant-loop-row
invariant-loop-row l = (row : ℕ) → known_at l.rows l.known row
    ≡ cond (is_among row (rows_to l.fn.span.first l.row)) (common (known_at l.rows l.fn.known row) l.range) (known_at l.rows l.fn.known row)
