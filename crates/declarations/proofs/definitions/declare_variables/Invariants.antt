use Rattle.std.proofs.Common.{[]}
use Rattle.typing.specs.Routines.{local}
use Rattle.typing.proofs.Rows.{IsLeftFrom}
use Rattle.declarations.specs.Known.{AreKnown}
use Rattle.declarations.proofs.definitions.declare_variables.Given as goal

-- what is left, and that its names are known
abbrev pub invariant-loop-name : goal.invariant-loop-name
invariant-loop-name l = record {
  left : IsLeftFrom (local l.type_id) l.names l.initial.typer l.name-index [] l.typer;
  known : AreKnown l.names l.typer.regions;
}
