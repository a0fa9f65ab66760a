use Rattle.std.proofs.Common.{◌≡◌, ◌≤◌, true, length, map, vec_len, vec_capacity}
use Rattle.std.specs.Prelude.{flat_map}
use Rattle.typed_tree.specs.Kinds.{is_held_stmt}
use Rattle.typed_tree.specs.Look.{look_stmt}
use Rattle.typed_tree.specs.Tests.{all_hold}
use Rattle.typing.specs.Statements.{statement}
use Rattle.typing.proofs.Rows.{IsLeftFrom}
use Rattle.resolver.proofs.CaseArms.{AreLeftFrom}
use Rattle.resolver.proofs.statements.+statements.Given as goal

-- the statements so far are made, and those behind them are left; there is room for these
abbrev pub invariant-statements-loop-next : goal.invariant-statements-loop-next
invariant-statements-loop-next l = record {
  from : IsLeftFrom (λ s. s) (map statement l.written) l.initial.typer l.next-index (flat_map look_stmt l.made.items) l.typer;
  held : all_hold (map is_held_stmt l.made.items) ≡ true;
  count : vec_len l.made ≡ l.next-index;
  room : length l.written ≤ vec_capacity l.made;
}

-- the arms so far are made, and those behind them are left; there is room for these and for their rows
abbrev pub invariant-case_arms-loop-index : goal.invariant-case_arms-loop-index
invariant-case_arms-loop-index l = record {
  from : AreLeftFrom l.type_id l.constants l.written l.initial.typer l.index l.rows.items l.seen.keys l.arms.items l.typer;
  held : all_hold (map is_held_stmt l.arms.items) ≡ true;
  rows : vec_len l.rows ≤ l.index;
  rows_room : length l.written ≤ vec_capacity l.rows;
  arms : vec_len l.arms ≤ l.index;
  arms_room : length l.written ≤ vec_capacity l.arms;
}
