use Rattle.std.proofs.Common.{◌≡◌, ◌≤◌, true, length, map, vec_len, vec_capacity}
use Rattle.std.specs.Prelude.{flat_map}
use Rattle.typed_tree.specs.Kinds.{is_held_read}
use Rattle.typed_tree.specs.Look.{look_read}
use Rattle.typed_tree.specs.Tests.{all_hold}
use Rattle.typing.specs.Expressions.{written_actual}
use Rattle.typing.specs.Statements.{read_parameter}
use Rattle.typing.proofs.Rows.{IsLeftFrom}
use Rattle.resolver.proofs.reading.read_parameters.Given as goal

-- the variables so far are read, and those behind them are left; there is room for these
abbrev pub invariant-loop-next : goal.invariant-loop-next
invariant-loop-next l = record {
  from : IsLeftFrom read_parameter (map written_actual l.written) l.initial.typer l.next-index (flat_map look_read l.made.items) l.typer;
  held : all_hold (map is_held_read l.made.items) ≡ true;
  count : vec_len l.made ≡ l.next-index;
  room : length l.written ≤ vec_capacity l.made;
}
