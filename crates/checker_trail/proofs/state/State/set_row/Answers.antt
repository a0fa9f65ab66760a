use Rattle.checker_trail.proofs.Steps.{row-moves}
use Rattle.checker_trail.proofs.state.State.set_row.Goals as goal

pub returns : goal.returns
returns c = row-moves c.args.row c.row-was.result c.args.now c.if-self.false c.row-was.ensures c.make.ensures
