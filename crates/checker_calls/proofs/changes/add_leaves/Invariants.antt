use Rattle.std.proofs.Common.{◌≡◌, ◌++◌, map}
use Rattle.std.specs.List.{range_with_len}
use Rattle.checker_state.specs.View.{said_reach}
use Rattle.checker_calls.specs.Actuals.{Reached}
use Rattle.checker_calls.specs.Exit.{rows_changed}
use Rattle.checker_calls.specs.ExitView.{said_change}
use Rattle.checker_calls.proofs.changes.add_leaves.Given as goal

-- so far
abbrev pub invariant-loop-place : goal.invariant-loop-place
invariant-loop-place l =
    map said_change l.found.items ≡ map said_change l.fn.found.items ++ rows_changed l.claims.tree l.claims.facts (range_with_len l.own.first l.place)
    (map (λ row. Reached row (said_reach l.reach)) (range_with_len l.borne.first l.place))
