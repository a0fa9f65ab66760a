use Rattle.std.proofs.Common.{[]}
use Rattle.typing.specs.Routines.{type_definition}
use Rattle.typing.proofs.Rows.{IsLeftFrom}
use Rattle.declarations.specs.Known.{AreKnownTypes}
use Rattle.declarations.proofs.definitions.declare_types.Given as goal

-- what is left, and that its names are known
abbrev pub invariant-loop-definition : goal.invariant-loop-definition
invariant-loop-definition l = record {
  left : IsLeftFrom type_definition l.definitions l.initial.typer l.definition-index [] l.typer;
  known : AreKnownTypes l.definitions l.typer.regions;
}
