use Rattle.std.proofs.Common.{[]}
use Rattle.typing.specs.Routines.{definition}
use Rattle.typing.proofs.Rows.{IsLeftFrom}
use Rattle.declarations.specs.Known.{AreKnownDefinitions}
use Rattle.declarations.proofs.definitions.declare_constants.Given as goal

-- what is left, and that its names are known
abbrev pub invariant-loop-definition : goal.invariant-loop-definition
invariant-loop-definition l = record {
  left : IsLeftFrom definition l.definitions l.initial.typer l.definition-index [] l.typer;
  known : AreKnownDefinitions l.definitions l.typer.regions;
}
