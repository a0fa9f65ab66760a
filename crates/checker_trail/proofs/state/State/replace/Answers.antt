use Rattle.checker_trail.proofs.Steps.{replace-moves, same-stays}
use Rattle.checker_trail.proofs.state.State.replace.Goals as goal

pub returns : goal.returns
returns c = replace-moves c.args.place c.index.result.now c.args.now c.if-self.false c.index.ensures c.make.ensures

pub returns-then-is_same : goal.returns-then-is_same
returns-then-is_same c =
    same-stays c.args.place c.index.result.now c.args.now c.args.self.now c.if-is_same.ensures c.index.ensures
