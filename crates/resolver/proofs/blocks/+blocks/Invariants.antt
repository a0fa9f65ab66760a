use Rattle.std.proofs.Common.{◌≡◌, true}
use Rattle.declarations.specs.Known.{AreKnownRoutines}
use Rattle.resolver.specs.Made.{are_held_made}
use Rattle.resolver.proofs.BlockForms.{RoutinesFrom}
use Rattle.resolver.proofs.blocks.+blocks.Given as goal

-- the routines so far are made, and those behind them are left; their names are known
abbrev pub invariant-routines-loop-next : goal.invariant-routines-loop-next
invariant-routines-loop-next l = record {
  from : RoutinesFrom l.written l.initial.typer l.initial.made.items l.next-index l.made.items l.typer;
  known : AreKnownRoutines l.written l.typer.regions;
  held : are_held_made l.initial.made.items ≡ true → are_held_made l.made.items ≡ true;
}
