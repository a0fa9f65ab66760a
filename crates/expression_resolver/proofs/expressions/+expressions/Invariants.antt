use Rattle.std.proofs.Common.{◌≡◌, ◌≤◌, length, map, drop, vec_len, vec_capacity, true}
use Rattle.std.specs.Prelude.{flat_map}
use Rattle.typed_tree.specs.Look.{look_link}
use Rattle.typing.specs.Passing.{behind_marks}
use Rattle.typing.specs.Expressions.{links, written_link}
use Rattle.expression_resolver.specs.Made.{AreHeldLinks}
use Rattle.expression_resolver.specs.Values.{are_held_actuals}
use Rattle.expression_resolver.proofs.Selecting.{AreSelectedFrom}
use Rattle.expression_resolver.proofs.Actuals.{ArePassedFrom}
use Rattle.expression_resolver.proofs.MemberRows.{AreMembersFrom}
use Rattle.expression_resolver.proofs.expressions.+expressions.Given as goal

-- the operators so far are made, and those behind them are left; there is room for these
abbrev pub invariant-links-loop-written : goal.invariant-links-loop-written
invariant-links-loop-written l = record {
  from : links l.fn.left (map written_link l.rest) l.initial.typer
      ≡ behind_marks (flat_map look_link l.links.items) (links l.typed (map written_link (drop l.written-index l.rest)) l.typer);
  held : AreHeldLinks l.fn.left.value l.typed.value l.links.items;
  count : vec_len l.links ≡ l.written-index;
  room : length l.rest ≤ vec_capacity l.links;
}

-- the selectors so far are made, and those behind them are left
abbrev pub invariant-selected-loop-selector : goal.invariant-selected-loop-selector
invariant-selected-loop-selector l =
    AreSelectedFrom l.fn.before.items l.fn.type_id l.selectors l.indexes l.initial.typer l.selector-index l.selection l.typer

-- the members so far are made, and those behind them are left
abbrev pub invariant-members-loop-designator : goal.invariant-members-loop-designator
invariant-members-loop-designator l = AreMembersFrom l.designators l.values l.initial.typer l.designator-index l.made l.typer

-- the actual parameters so far are made, and those behind them are left; there is room for these
abbrev pub invariant-actuals_for-loop-i : goal.invariant-actuals_for-loop-i
invariant-actuals_for-loop-i l = record {
  from : ArePassedFrom l.roots l.actuals l.initial.typer l.i l.made.items l.typer;
  held : are_held_actuals l.made.items ≡ true;
  count : vec_len l.made ≡ l.i;
  room : length l.actuals ≤ vec_capacity l.made;
}
