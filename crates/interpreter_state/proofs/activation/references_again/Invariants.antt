use Rattle.std.proofs.Common.{◌≡◌, ◌++◌, map, length}
use Rattle.interpreter_state.specs.Views.{reference_seen}
use Rattle.interpreter_state.proofs.activation.references_again.Given as goal

-- those so far stand before those that are left
abbrev pub invariant-loop-first : goal.invariant-loop-first
invariant-loop-first l = map reference_seen l.references ≡ map reference_seen l.again.items ++ map reference_seen l.left

abbrev pub decreases-loop-first : goal.decreases-loop-first
decreases-loop-first l = length l.left
