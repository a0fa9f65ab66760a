use Rattle.std.proofs.Common.{map, take}
use Rattle.certificate.specs.Contents.{said_fact}
use Rattle.checker_state.specs.Loops.{with_claims}
use Rattle.checker_trail.specs.Trail.{Moves}
use Rattle.checker_loops.specs.Loops.{all_said}
use Rattle.checker_loops.proofs.claims.claim_facts.Given as goal

-- the facts so far
abbrev pub invariant-loop-fact : goal.invariant-loop-fact
invariant-loop-fact l = Moves (with_claims (all_said l.rows (map said_fact (take l.fact-index l.facts)))) l.fn.state l.state
