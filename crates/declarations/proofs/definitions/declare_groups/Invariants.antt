use Rattle.std.proofs.Common.{[]}
use Rattle.typing.specs.Routines.{group}
use Rattle.typing.proofs.Rows.{IsLeftFrom}
use Rattle.declarations.specs.Known.{AreKnownGroups}
use Rattle.declarations.proofs.definitions.declare_groups.Given as goal

-- what is left, and that its names are known
abbrev pub invariant-loop-group : goal.invariant-loop-group
invariant-loop-group l = record {
  left : IsLeftFrom group l.groups l.initial.typer l.group-index [] l.typer;
  known : AreKnownGroups l.groups l.typer.regions;
}
