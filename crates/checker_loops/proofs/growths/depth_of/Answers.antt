use Rattle.std.proofs.Common.{arith}
use Rattle.checker_loops.proofs.Turning.{depth-most}
use Rattle.checker_loops.proofs.growths.depth_of.Goals as goal

pub overflow_add-depth : goal.overflow_add-depth
overflow_add-depth c =
    let least = depth-most c.args.rounds.now c.loop-round.round-index c.loop-round.depth c.loop-round-test.true c.loop-round.invariant in
    omega (arith, least, c.loop-round-test.true, c.loop-round.auto.round-index-end)
