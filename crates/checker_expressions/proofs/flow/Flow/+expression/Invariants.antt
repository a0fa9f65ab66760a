use Rattle.std.proofs.Common.{◌≡◌, List, map, drop}
use Rattle.typed_tree.specs.Entries.{entries_of_passed, index_entries, joined}
use Rattle.checker_calls.specs.Actuals.{Actual}
use Rattle.checker_calls.specs.View.{said_actual}
use Rattle.domain.specs.Interval.{Interval}
use Rattle.checker_state.specs.Stores.{Reach}
use Rattle.checker_state.specs.View.{said_reach}
use Rattle.checker_state.specs.declared.value.Known.{Known}
use Rattle.checker_expressions.specs.declared.flow.Flow.{Flow}
use Rattle.checker_expressions.specs.View.{FlowGoes, entries_of_link, said_gathering}
use Rattle.checker_expressions.specs.Visits.{all_counted}
use Rattle.checker_expressions.specs.Walk.{actuals_walk, in_turn, index_pieces, indexes_walk, link_walk, members_walk, none_gathered, passed_piece_of}
use Rattle.checker_expressions.proofs.InTurn.{prefixed}
use Rattle.checker_expressions.proofs.flow.Flow.+expression.Given as goal

-- whatever the checker does over the operators that are left, it did it over all; and so of the entries
abbrev pub invariant-in_turn-loop-link : goal.invariant-in_turn-loop-link
invariant-in_turn-loop-link g l = record {
  goes : (result : Known) (new : Flow) → FlowGoes (in_turn (map link_walk (drop l.link-index l.links)) l.known) l.self new result
      → FlowGoes (in_turn (map link_walk l.links) l.fn.left) l.fn.self new result;
  counts : all_counted g.C.Count.counted (joined (map entries_of_link (drop l.link-index l.links))) l.visits
      ≡ all_counted g.C.Count.counted (joined (map entries_of_link l.links)) l.fn.visits;
}

-- the same over the index expressions that are left, with the selectors that are left
abbrev pub invariant-indexes-loop-i : goal.invariant-indexes-loop-i
invariant-indexes-loop-i g l = record {
  goes : (result : Reach) (new : Flow) → FlowGoes (indexes_walk l.left (index_pieces (drop l.i l.indexes)) (said_reach l.reach)) l.self new result
      → FlowGoes (indexes_walk l.selectors (index_pieces l.indexes) (said_reach l.fn.begun)) l.fn.self new result;
  counts : all_counted g.C.Count.counted (joined (index_entries (drop l.i l.indexes))) l.visits
      ≡ all_counted g.C.Count.counted (joined (index_entries l.indexes)) l.fn.visits;
}

-- the same over the member expressions that are left
abbrev pub invariant-members-loop-member : goal.invariant-members-loop-member
invariant-members-loop-member g l = record {
  goes : (result : Interval) (new : Flow)
      → FlowGoes (members_walk (index_pieces (drop l.member-index l.members)) (said_gathering l.gathering)) l.self new result
      → FlowGoes (members_walk (index_pieces l.members) (none_gathered l.designators)) l.fn.self new result;
  counts : all_counted g.C.Count.counted (joined (index_entries (drop l.member-index l.members))) l.visits
      ≡ all_counted g.C.Count.counted (joined (index_entries l.members)) l.fn.visits;
}

-- the same over the actual parameters that are left, behind those that were passed
abbrev pub invariant-actuals-loop-actual : goal.invariant-actuals-loop-actual
invariant-actuals-loop-actual g l = record {
  goes : (result : List Actual) (new : Flow)
      → FlowGoes (prefixed (map said_actual l.passed.items) (actuals_walk (map passed_piece_of (drop l.actual-index l.actuals)))) l.self new result
      → FlowGoes (actuals_walk (map passed_piece_of l.actuals)) l.fn.self new result;
  counts : all_counted g.C.Count.counted (joined (map entries_of_passed (drop l.actual-index l.actuals))) l.visits
      ≡ all_counted g.C.Count.counted (joined (map entries_of_passed l.actuals)) l.fn.visits;
}
