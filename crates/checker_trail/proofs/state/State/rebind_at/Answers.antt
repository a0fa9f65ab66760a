use Rattle.std.proofs.Common.{arith}
use Rattle.checker_state.specs.View.{held_by}
use Rattle.checker_trail.proofs.Steps.{became-moves, gone-moves}
use Rattle.checker_trail.proofs.state.State.rebind_at.Goals as goal

pub returns-in-None : goal.returns-in-None
returns-in-None c =
    gone-moves (held_by c.args.how) c.args.place c.index.result.now (omega (arith, c.if-place-len.false, c.len.ensures)) c.index.ensures c.in-None.ensures
    c.remove.ensures

pub returns-in-Some : goal.returns-in-Some
returns-in-Some c =
    became-moves (held_by c.args.how) c.args.place c.index.result.now c.in-Some.now (omega (arith, c.if-place-len.false, c.len.ensures)) c.index.ensures
    c.in-Some.ensures c.replace.ensures
