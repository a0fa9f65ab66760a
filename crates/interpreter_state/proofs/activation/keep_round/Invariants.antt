use Rattle.std.proofs.Common.{◌≡◌, ◌++◌, filter, map, length}
use Rattle.typed_tree.specs.WellFormed.{is_one_of}
use Rattle.interpreter_state.specs.Views.{seen_as}
use Rattle.interpreter_state.proofs.activation.keep_round.Given as goal

-- those so far stand before those that are left
abbrev pub invariant-loop-first : goal.invariant-loop-first
invariant-loop-first l =
    map seen_as l.initial.kept.items ++ filter (λ seen. is_one_of l.around seen.block) (map seen_as l.visible) ≡
    map seen_as l.kept.items ++ filter (λ seen. is_one_of l.around seen.block) (map seen_as l.left)

abbrev pub decreases-loop-first : goal.decreases-loop-first
decreases-loop-first l = length l.left
