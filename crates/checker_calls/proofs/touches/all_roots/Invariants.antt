use Rattle.std.proofs.Common.{take}
use Rattle.checker_calls.specs.ExitView.{AreRoots}
use Rattle.checker_calls.proofs.touches.all_roots.Given as goal

-- so far
abbrev pub invariant-loop-root : goal.invariant-loop-root
invariant-loop-root l = AreRoots (take l.root-index l.list) l.roots
