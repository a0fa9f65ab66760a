use Rattle.std.proofs.Common.{◌≡◌, map, take}
use Rattle.checker_loops.specs.View.{claims_found, said_claims}
use Rattle.checker_loops.proofs.loops.all_claims.Given as goal

-- the claims so far
abbrev pub invariant-loop-found : goal.invariant-loop-found
invariant-loop-found l = map said_claims l.claims.items ≡ map claims_found (take l.found-index l.found-items)
