use Rattle.std.proofs.Common.{◌≡◌, ◌≤◌, drop, length, map, vec_len, vec_capacity}
use Rattle.types.specs.Forms.{field_form}
use Rattle.typing.specs.Denoters.{denoted_type}
use Rattle.typing.proofs.DenoterRows.{AreTypesFrom, AreGroupsFrom}
use Rattle.declarations.specs.Known.{AreKnown, names_in}
use Rattle.declarations.proofs.Defined.{groups_from}
use Rattle.declarations.proofs.denoters.+denoters.Given as goal

-- what is left, and that the names are known which it defines; there is room for it
abbrev pub invariant-index_types-loop-denoter : goal.invariant-index_types-loop-denoter
invariant-index_types-loop-denoter l = record {
  left : AreTypesFrom denoted_type l.denoters l.initial.typer l.denoter-index l.ids.items l.typer;
  known : AreKnown (names_in (drop l.denoter-index l.denoters)) l.typer.regions;
  count : vec_len l.ids ≡ l.denoter-index;
  room : length l.denoters ≤ vec_capacity l.ids;
}

abbrev pub invariant-grouped_fields-loop-row : goal.invariant-grouped_fields-loop-row
invariant-grouped_fields-loop-row l = record {
  left : AreGroupsFrom denoted_type l.rows l.denoters l.initial.typer (length l.yielded) (map field_form l.fields.items) l.typer;
  known : AreKnown (groups_from l.rows l.denoters (length l.yielded)) l.typer.regions;
}
