use Rattle.std.proofs.Common.{arith}
use Rattle.checker_trail.proofs.Steps.{remove-moves}
use Rattle.checker_trail.proofs.state.State.remove.Goals as goal

pub returns : goal.returns
returns c =
    remove-moves c.args.place c.index-held.result.now c.if-self.false (omega (arith, c.if-place-len.false, c.len.ensures)) c.index-held.ensures c.make.ensures
