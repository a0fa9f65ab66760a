use Rattle.std.proofs.Common.{map, take}
use Rattle.certificate.specs.Contents.{said_fact}
use Rattle.checker_trail.specs.Trail.{Moves}
use Rattle.checker_loops.specs.Growths.{growths_begun}
use Rattle.checker_loops.specs.View.{said_turns}
use Rattle.checker_loops.proofs.growths.Turns.begin.Given as goal

abbrev pub invariant-loop-fact : goal.invariant-loop-fact
invariant-loop-fact l =
    Moves (growths_begun l.rows (said_turns l.self) (map said_fact (take l.fact-index l.self.round.facts.now))) l.fn.state l.state
