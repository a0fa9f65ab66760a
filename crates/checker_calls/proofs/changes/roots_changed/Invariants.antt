use Rattle.std.proofs.Common.{◌≡◌, take}
use Rattle.checker_calls.specs.Exit.{roots_changed}
use Rattle.checker_calls.specs.View.{said_bindings}
use Rattle.checker_calls.proofs.changes.roots_changed.Given as goal

-- so far
abbrev pub invariant-loop-root : goal.invariant-loop-root
invariant-loop-root l = l.roots.items ≡ roots_changed (said_bindings l.bindings) (take l.root-index l.listed)
