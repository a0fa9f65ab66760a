use Rattle.std.proofs.Common.{◌≡◌, take, true}
use Rattle.std.specs.List.{list_all}
use Rattle.certificate.specs.Contents.{said_fact}
use Rattle.checker_trail.specs.Trail.{seen}
use Rattle.checker_loops.specs.Growths.{has_turned}
use Rattle.checker_loops.specs.View.{said_turns}
use Rattle.checker_loops.proofs.growths.Turns.are_given.Given as goal

abbrev pub invariant-loop-fact : goal.invariant-loop-fact
invariant-loop-fact l = list_all (λ fact. has_turned (said_turns l.self) (seen l.state) (said_fact fact)) (take l.fact-index l.self.round.facts.now) ≡ true
