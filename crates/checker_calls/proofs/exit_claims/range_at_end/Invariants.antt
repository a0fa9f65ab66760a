use Rattle.std.proofs.Common.{◌≡◌, drop, map}
use Rattle.certificate.specs.Contents.{said_fact}
use Rattle.checker_calls.specs.Exit.{exit_range, range_at_end}
use Rattle.checker_calls.proofs.exit_claims.range_at_end.Given as goal

-- what is left from here is what was to be done
abbrev pub invariant-loop-fact : goal.invariant-loop-fact
invariant-loop-fact l =
    exit_range l.rows l.row (map said_fact (drop l.fact-index l.facts)) l.known ≡ range_at_end l.rows (map said_fact l.facts) l.row
