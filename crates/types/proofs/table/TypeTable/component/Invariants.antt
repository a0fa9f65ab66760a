use Rattle.std.proofs.Common.{◌≡◌, ◌++◌, [], slice_index_or}
use Rattle.types.specs.Components.{components_of}
use Rattle.types.specs.Parts.{IsInside, steps_to}
use Rattle.types.proofs.table.TypeTable.component.Given as goal

-- the steps so far and those from here on are all
abbrev pub invariant-loop-step : goal.invariant-loop-step
invariant-loop-step l = record {
  inside : IsInside l.self l.part;
  goes_on : l.steps.items ++ steps_to l.self l.part ≡ l.initial.steps.items ++ slice_index_or (components_of l.self l.fn.id) l.place [];
}

abbrev pub decreases-loop-step : goal.decreases-loop-step
decreases-loop-step l = l.part.before
