use Rattle.std.proofs.Common.{◌≡◌, ◌++◌, map, length}
use Rattle.interpreter_state.specs.Views.{operand_seen, pairs_passed, reference_seen}
use Rattle.interpreter_state.proofs.activation.references_of.Given as goal

-- those so far stand before those of the parameters that are left
abbrev pub invariant-loop-root : goal.invariant-loop-root
invariant-loop-root l =
    pairs_passed l.parameters (map operand_seen l.arguments) ≡
    map reference_seen l.references.items ++ pairs_passed l.roots (map operand_seen l.left)

abbrev pub decreases-loop-root : goal.decreases-loop-root
decreases-loop-root l = length l.roots
