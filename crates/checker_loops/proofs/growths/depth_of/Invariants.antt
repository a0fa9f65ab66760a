use Rattle.std.proofs.Common.{◌≡◌, map, take}
use Rattle.checker_loops.specs.Growths.{depth_of}
use Rattle.checker_loops.specs.View.{loop_of_round}
use Rattle.checker_loops.proofs.growths.depth_of.Given as goal

abbrev pub invariant-loop-round : goal.invariant-loop-round
invariant-loop-round l = l.depth ≡ depth_of (map loop_of_round (take l.round-index l.rounds))
