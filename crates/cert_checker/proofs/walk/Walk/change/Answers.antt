use Rattle.std.proofs.Common.{ap, Bool}
use Rattle.checker_expressions.specs.declared.fault.Rule.TheVariants.{Changes}
use Rattle.checker_expressions.specs.View.{state_of}
use Rattle.checker_expressions.specs.Walk.{asked}
use Rattle.cert_checker.specs.View.{context_of}
use Rattle.cert_checker.specs.Walk.{change}
use Rattle.cert_checker.proofs.Steps.{goes-here, lifted}
use Rattle.cert_checker.proofs.walk.Walk.change.Goals as goal

pub returns : goal.returns
returns c =
    let old = c.args.self.now in
    goes-here (asked c.may_change-may.result Changes c.args.place) (change c.args.place c.args.root)
    (ap (λ (may : Bool). asked may Changes c.args.place (context_of old) (state_of old.flow)) c.may_change-may.ensures) (lifted c.ask.ensures)
