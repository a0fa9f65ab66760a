use Rattle.std.proofs.Common.{ap, Bool}
use Rattle.checker_loops.specs.View.{claims_of_round}
use Rattle.checker_expressions.specs.declared.fault.Rule.TheVariants.{LoopEntry}
use Rattle.checker_expressions.specs.View.{state_of}
use Rattle.checker_expressions.specs.Walk.{asked}
use Rattle.cert_checker.specs.Walk.{growths_entered}
use Rattle.cert_checker.specs.View.{context_of}
use Rattle.cert_checker.proofs.Steps.{goes-here, lifted}
use Rattle.cert_checker.proofs.walk.Walk.enter_turns.Goals as goal

pub returns : goal.returns
returns c =
    let old = c.args.self.now in
    let place = c.args.place in
    goes-here (asked c.can_begin-given.result LoopEntry place) (growths_entered place (claims_of_round c.args.turns.now.round).facts)
    (ap (λ (kept : Bool). asked kept LoopEntry place (context_of old) (state_of old.flow)) c.can_begin-given.ensures) (lifted c.ask.ensures)
