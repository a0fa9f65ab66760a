use Rattle.std.proofs.Common.{take}
use Rattle.checker_loops.specs.View.{AreByBlock, ArePartners, listed_of, said_pairs}
use Rattle.checker_loops.proofs.pairs.Pairs.of.Given as goal

-- so far
abbrev pub invariant-loop-pair : goal.invariant-loop-pair
invariant-loop-pair l =
    ArePartners (said_pairs (take l.pair-index l.pair-items)) l.partners.items
    × AreByBlock (listed_of l.tree (take l.pair-index l.pair-items)) l.by_block
