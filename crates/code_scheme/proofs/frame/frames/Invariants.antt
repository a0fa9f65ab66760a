use Rattle.std.proofs.Common.{take}
use Rattle.code_scheme.specs.Frames.{AreCounted}
use Rattle.code_scheme.proofs.frame.frames.Given as goal

abbrev pub invariant-loop-variable : goal.invariant-loop-variable
invariant-loop-variable l = AreCounted l.fn.tree.types (take l.variable-index l.variable-items) l.frames.items
