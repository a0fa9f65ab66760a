use Rattle.std.proofs.Common.{min}
use Rattle.checker_known.proofs.Growing.{NoneCounted}
use Rattle.checker_known.proofs.knowledge.Knowledge.grows_outside.Given as goal

abbrev pub invariant-loop-place : goal.invariant-loop-place
invariant-loop-place l = NoneCounted l.self.growing.items (min l.depth 128) l.place
