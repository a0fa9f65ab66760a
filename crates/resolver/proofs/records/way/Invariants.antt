use Rattle.std.proofs.Common.{◌≡◌, ◌++◌, map, take}
use Rattle.typed_tree.specs.Accesses.{origin_of, step_of, steps_of}
use Rattle.resolver.proofs.records.way.Given as goal

-- the steps of the selectors so far
abbrev pub invariant-loop-selector : goal.invariant-loop-selector
invariant-loop-selector l =
    l.steps.items ≡ steps_of (origin_of l.access) ++ map step_of (take l.selector-index l.access.selectors.items)
