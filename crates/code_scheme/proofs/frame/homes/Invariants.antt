use Rattle.std.proofs.Common.{◌≡◌, ◌++◌, drop, take}
use Rattle.code_scheme.specs.Frames.{AreCounted}
use Rattle.code_scheme.specs.Scopes.{homes_from, homes_of}
use Rattle.code_scheme.proofs.frame.homes.Given as goal

abbrev pub invariant-loop-variable : goal.invariant-loop-variable
invariant-loop-variable l =
    AreCounted l.fn.tree.types (take l.variable-index l.variable-items) l.before.items
    × (AreCounted l.fn.tree.types l.fn.tree.variables.items l.frames
    → l.homes.items ++ homes_from l.fn.tree l.variable-index (drop l.variable-index l.variable-items) ≡ homes_of l.fn.tree)
