use Rattle.std.proofs.Common.{◌≡◌, map, length}
use Rattle.interpreter_state.specs.Views.{declared_in, seen_as}
use Rattle.interpreter_state.proofs.activation.place_in.Given as goal

-- it wasn't found so far
abbrev pub invariant-loop-first : goal.invariant-loop-first
invariant-loop-first l = declared_in (map seen_as l.visible) l.root l.variable ≡ declared_in (map seen_as l.left) l.root l.variable

abbrev pub decreases-loop-first : goal.decreases-loop-first
decreases-loop-first l = length l.left
