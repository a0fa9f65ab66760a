use Rattle.std.proofs.Common.{take}
use Rattle.checker_trail.specs.Trail.{Moves}
use Rattle.checker_loops.specs.BlockView.{all_begun}
use Rattle.checker_loops.proofs.starts.begin_all.Given as goal

-- the variables so far
abbrev pub invariant-loop-root : goal.invariant-loop-root
invariant-loop-root l = Moves (all_begun l.fn.state.table.now l.block (take l.root-index l.roots)) l.fn.state l.state
