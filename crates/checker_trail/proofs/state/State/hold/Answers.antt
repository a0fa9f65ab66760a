use Rattle.checker_trail.proofs.Steps.{hold-moves}
use Rattle.checker_trail.proofs.state.State.hold.Goals as goal

pub returns-in-Some : goal.returns-in-Some
returns-in-Some c = hold-moves c.in-Some.place c.args.held c.if-self.false c.in-Some.ensures c.make.ensures
