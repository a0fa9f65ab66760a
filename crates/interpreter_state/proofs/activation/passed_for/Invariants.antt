use Rattle.std.proofs.Common.{◌≡◌, map, length}
use Rattle.interpreter_state.specs.Views.{passed_at, reference_seen}
use Rattle.interpreter_state.proofs.activation.passed_for.Given as goal

-- it wasn't found so far
abbrev pub invariant-loop-first : goal.invariant-loop-first
invariant-loop-first l = passed_at (map reference_seen l.references) l.root ≡ passed_at (map reference_seen l.left) l.root

abbrev pub decreases-loop-first : goal.decreases-loop-first
decreases-loop-first l = length l.left
