use Rattle.std.proofs.Common.{◌≡◌, drop}
use Rattle.resolver.proofs.OpenedRecords.{closes}
use Rattle.resolver.proofs.records.close_records.Given as goal

-- those behind the records so far are left
abbrev pub invariant-loop : goal.invariant-loop
invariant-loop l = closes l.written l.initial.typer ≡ closes (drop l.index l.written) l.typer
