use Rattle.declarations.specs.Known.{AreKnown}
use Rattle.declarations.proofs.Parts.{AreLeft}
use Rattle.declarations.proofs.denoters.declare_constants.Given as goal

-- what is left, and that its names are known
abbrev pub invariant-loop-number : goal.invariant-loop-number
invariant-loop-number l = record {
  left : AreLeft l.type_id l.names l.initial.typer l.number l.typer;
  known : AreKnown l.names l.typer.regions;
}
