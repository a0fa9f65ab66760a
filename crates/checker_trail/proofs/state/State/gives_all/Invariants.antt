use Rattle.std.proofs.Common.{◌≡◌, map, take, true}
use Rattle.checker_state.specs.Loops.{gives_all}
use Rattle.checker_trail.specs.Trail.{seen}
use Rattle.checker_state.specs.View.{said_claim}
use Rattle.checker_state.specs.State.{table_of}
use Rattle.checker_trail.proofs.state.State.gives_all.Given as goal

abbrev pub invariant-loop-claim : goal.invariant-loop-claim
invariant-loop-claim l = gives_all (table_of l.self.table.now) (seen l.self) (map said_claim (take l.claim-index l.claims)) ≡ true
