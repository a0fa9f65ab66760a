use Rattle.std.proofs.Common.{◌≡◌, take, true}
use Rattle.std.specs.List.{list_all}
use Rattle.certificate.specs.Contents.{said_fact}
use Rattle.checker_trail.specs.Trail.{seen}
use Rattle.checker_loops.specs.Growths.{can_begin}
use Rattle.checker_loops.proofs.growths.Turns.can_begin.Given as goal

abbrev pub invariant-loop-fact : goal.invariant-loop-fact
invariant-loop-fact l = list_all (λ fact. can_begin (seen l.state) (said_fact fact)) (take l.fact-index l.self.round.facts.now) ≡ true
