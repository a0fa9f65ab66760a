use Rattle.std.proofs.Common.{◌≡◌, map, drop}
use Rattle.typed_tree.specs.Entries.{joined}
use Rattle.checker_expressions.specs.declared.flow.Flow.{Flow}
use Rattle.checker_expressions.specs.View.{FlowGoes, entries_of_link}
use Rattle.checker_expressions.specs.Visits.{all_counted}
use Rattle.checker_expressions.specs.Walk.{Valued}
use Rattle.checker_expressions.proofs.Notes.{noting_in_turn}
use Rattle.checker_expressions.proofs.flow.Flow.+noting.Given as goal

-- whatever the checker does and notes over the operators that are left, it did it over all; and so of the entries
abbrev pub invariant-noting_in_turn-loop-link : goal.invariant-noting_in_turn-loop-link
invariant-noting_in_turn-loop-link g l = record {
  goes : (result : Valued) (new : Flow) → FlowGoes (noting_in_turn l.noted.items l.inside (drop l.link-index l.links) l.known) l.self new result
      → FlowGoes (noting_in_turn l.fn.noted.items l.inside l.links l.fn.left) l.fn.self new result;
  counts : all_counted g.C.Count.counted (joined (map entries_of_link (drop l.link-index l.links))) l.visits
      ≡ all_counted g.C.Count.counted (joined (map entries_of_link l.links)) l.fn.visits;
}
