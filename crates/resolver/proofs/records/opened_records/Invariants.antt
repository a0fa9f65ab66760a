use Rattle.std.proofs.Common.{◌≡◌, ◌≤◌, true, length, map, vec_len, vec_capacity}
use Rattle.std.specs.Prelude.{flat_map}
use Rattle.typed_tree.specs.Kinds.{is_held_record}
use Rattle.typed_tree.specs.Look.{look_record}
use Rattle.typed_tree.specs.Tests.{all_hold}
use Rattle.typing.specs.Statements.{opened, written_record}
use Rattle.typing.proofs.Rows.{IsLeftFrom}
use Rattle.resolver.proofs.records.opened_records.Given as goal

-- the records so far are opened, and those behind them are left; there is room for these
abbrev pub invariant-loop-next : goal.invariant-loop-next
invariant-loop-next l = record {
  from : IsLeftFrom opened (map written_record l.written) l.initial.typer l.next-index (flat_map look_record l.made.items) l.typer;
  held : all_hold (map is_held_record l.made.items) ≡ true;
  count : vec_len l.made ≡ l.next-index;
  room : length l.written ≤ vec_capacity l.made;
}
