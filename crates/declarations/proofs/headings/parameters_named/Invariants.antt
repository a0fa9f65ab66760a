use Rattle.std.proofs.Common.{◌≡◌, ◌≤◌, length, vec_len, vec_capacity}
use Rattle.declarations.specs.Known.{AreKnown}
use Rattle.declarations.proofs.HeadingForms.{NamedFrom}
use Rattle.declarations.proofs.headings.parameters_named.Given as goal

-- what is left, and that the names are known; there is room for the roots
abbrev pub invariant-loop-name : goal.invariant-loop-name
invariant-loop-name l = record {
  left : NamedFrom l.number l.kind l.type_id l.names l.initial.typer l.name-index l.roots.items l.typer;
  known : AreKnown l.names l.typer.regions;
  count : vec_len l.roots ≡ l.name-index;
  room : length l.names ≤ vec_capacity l.roots;
}
