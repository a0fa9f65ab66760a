use Rattle.std.proofs.Common.{◌≡◌, map, take}
use Rattle.std.specs.Prelude.{flat_map}
use Rattle.checker_calls.specs.Actuals.{actual_of}
use Rattle.checker_calls.specs.Exit.{changes_of}
use Rattle.checker_calls.specs.View.{said_bindings}
use Rattle.checker_calls.specs.ExitView.{said_change}
use Rattle.checker_calls.proofs.changes.all_changes.Given as goal

-- so far
abbrev pub invariant-loop-root : goal.invariant-loop-root
invariant-loop-root l =
    map said_change l.found.items ≡ flat_map (λ root. changes_of l.claims.tree l.claims.facts root (actual_of (said_bindings l.bindings) root))
    (take l.root-index l.listed)
