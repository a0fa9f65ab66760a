use Rattle.std.proofs.Common.{ap, Bool}
use Rattle.checker_state.specs.Growths.{without_turns}
use Rattle.checker_loops.specs.Growths.{all_have_turned}
use Rattle.checker_loops.specs.View.{claims_of_round, said_turns}
use Rattle.checker_loops.specs.Ways.{turn_ended}
use Rattle.checker_ways.specs.View.{said_way}
use Rattle.checker_expressions.specs.declared.fault.Rule.TheVariants.{LoopTurn}
use Rattle.checker_expressions.specs.View.{state_of}
use Rattle.checker_expressions.specs.Walk.{Walking, ◌>>=◌, asked, changed_by}
use Rattle.cert_checker.specs.View.{at_state, context_of}
use Rattle.cert_checker.proofs.Steps.{goes-here, goes-then, lifted, moved}
use Rattle.cert_checker.proofs.walk.Walk.end_turn.Goals as goal

pub returns : goal.returns
returns c =
    let place = c.args.place in
    let turns = said_turns c.args.turns.now in
    let facts = (claims_of_round c.args.turns.now.round).facts in
    let test : Walking (Unit {0}) = λ context state. asked (all_have_turned turns state facts) LoopTurn place context state in
    let behind : Walking (Unit {0}) = changed_by (without_turns turns.depth) in
    let mid = at_state c.end_turn.new.state c.args.self.now in
    goes-then (changed_by (turn_ended (said_way c.args.way.now))) (λ _. test >>= λ _. behind) (moved c.end_turn.ensures)
    (goes-then test (λ _. behind)
    (goes-here (asked c.are_given-grown.result LoopTurn place) test
    (ap (λ (kept : Bool). asked kept LoopTurn place (context_of mid) (state_of mid.flow)) c.are_given-grown.ensures) (lifted c.ask.ensures))
    (moved c.end.ensures))
