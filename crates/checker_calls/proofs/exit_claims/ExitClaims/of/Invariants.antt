use Rattle.std.proofs.Common.{◌≡◌, ℕ, map, take}
use Rattle.certificate.specs.Contents.{said_fact}
use Rattle.checker_rows.specs.Limits.{row_limits}
use Rattle.checker_rows.specs.Rows.{rows_of}
use Rattle.checker_calls.specs.Exit.{exit_range}
use Rattle.checker_calls.specs.ExitView.{known_at}
use Rattle.checker_calls.proofs.exit_claims.ExitClaims.of.Given as goal

-- the facts so far
abbrev pub invariant-loop-fact : goal.invariant-loop-fact
invariant-loop-fact l = (row : ℕ) → known_at l.rows l.known row
    ≡ exit_range l.rows row (map said_fact (take l.fact-index l.facts)) (row_limits (rows_of l.rows) row)
