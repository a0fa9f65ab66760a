use Rattle.std.proofs.Common.{drop, flat_map, length}
use Rattle.typing.specs.Names.{formal_names}
use Rattle.declarations.specs.Known.{AreKnown}
use Rattle.declarations.proofs.HeadingForms.{ParametersFrom}
use Rattle.declarations.proofs.headings.parameters.Given as goal

-- what is left, and that the names are known
abbrev pub invariant-loop-group : goal.invariant-loop-group
invariant-loop-group l = record {
  left : ParametersFrom l.number l.groups l.types l.initial.typer (length l.yielded) l.roots.items l.typer;
  known : AreKnown (flat_map formal_names (drop (length l.yielded) l.groups)) l.typer.regions;
}
