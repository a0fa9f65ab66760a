use Rattle.std.proofs.Common.{[]}
use Rattle.typing.specs.Typing.{parameter_of_program}
use Rattle.typing.proofs.Rows.{IsLeftFrom}
use Rattle.declarations.specs.Known.{AreKnown}
use Rattle.declarations.proofs.parameters.declare_parameters.Given as goal

-- what is left, and that its names are known
abbrev pub invariant-loop-name : goal.invariant-loop-name
invariant-loop-name l = record {
  left : IsLeftFrom parameter_of_program l.names l.initial.typer l.name-index [] l.typer;
  known : AreKnown l.names l.typer.regions;
}
