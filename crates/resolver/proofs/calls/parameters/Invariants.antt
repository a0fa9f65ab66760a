use Rattle.std.proofs.Common.{◌≡◌, ◌≤◌, true, length, map, vec_len, vec_capacity}
use Rattle.std.specs.Prelude.{flat_map}
use Rattle.typed_tree.specs.Kinds.{is_held_parameter}
use Rattle.typed_tree.specs.Look.{look_parameter}
use Rattle.typed_tree.specs.Tests.{all_hold}
use Rattle.typing.specs.Expressions.{written_actual}
use Rattle.typing.specs.Statements.{parameter}
use Rattle.typing.proofs.Rows.{IsLeftFrom}
use Rattle.resolver.proofs.calls.parameters.Given as goal

-- the values so far are made, and those behind them are left; there is room for these
abbrev pub invariant-loop-value : goal.invariant-loop-value
invariant-loop-value l = record {
  from : IsLeftFrom parameter (map written_actual l.values) l.initial.typer l.value-index (flat_map look_parameter l.parameters.items) l.typer;
  held : all_hold (map is_held_parameter l.parameters.items) ≡ true;
  count : vec_len l.parameters ≡ l.value-index;
  room : length l.values ≤ vec_capacity l.parameters;
}
