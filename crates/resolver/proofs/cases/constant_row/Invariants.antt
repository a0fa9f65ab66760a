use Rattle.std.proofs.Common.{◌≡◌, ◌≤◌, ◌++◌, length, vec_len, vec_capacity}
use Rattle.resolver.proofs.CaseArms.{IsRowFrom}
use Rattle.resolver.proofs.cases.constant_row.Given as goal

-- the constants so far are met, and those behind them are left; there is room for these
abbrev pub invariant-loop-next : goal.invariant-loop-next
invariant-loop-next l = record {
  from : IsRowFrom l.type_id l.initial.seen.keys l.written l.initial.typer l.next-index l.row.items l.typer;
  met : l.seen.keys ≡ l.initial.seen.keys ++ l.row.items;
  count : vec_len l.row ≡ l.next-index;
  room : length l.written ≤ vec_capacity l.row;
}
