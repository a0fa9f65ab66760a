use Rattle.std.proofs.Common.{map, take}
use Rattle.certificate.specs.Contents.{said_fact}
use Rattle.checker_loops.specs.Growths.{growth_begun, growths_begun}
use Rattle.checker_loops.specs.View.{said_turns}
use Rattle.checker_trail.proofs.Ways.{moves-more}
use Rattle.checker_loops.proofs.Turning.{begun-append}
use Rattle.checker_loops.proofs.growths.Turns.begin.Goals as goal

pub loop-fact-preserved : goal.loop-fact-preserved
loop-fact-preserved c =
    let tree = c.table-rows.result.now in
    let turns = said_turns c.args.self.now in
    let facts = c.args.self.now.round.facts.now in
    let i = c.loop-fact.fact-index in
    let fact = c.fact-item.result in
    moves-more (λ some. growths_begun tree turns (map said_fact some)) (growth_begun tree turns (said_fact fact)) facts i fact c.loop-fact-test.true
    c.fact-item.is c.loop-fact.invariant c.begin_growth.ensures (begun-append tree turns (take i facts) fact)
