use Rattle.std.proofs.Common.{◌≡◌, ◌≤◌, length, vec_len, vec_capacity}
use Rattle.declarations.proofs.HeadingForms.{TypesFrom}
use Rattle.declarations.proofs.headings.group_types.Given as goal

-- what is left, and that there is room for it
abbrev pub invariant-loop-group : goal.invariant-loop-group
invariant-loop-group l = record {
  left : TypesFrom l.groups l.initial.typer l.group-index l.types.items l.typer;
  count : vec_len l.types ≡ l.group-index;
  room : length l.groups ≤ vec_capacity l.types;
}
