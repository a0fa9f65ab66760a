use Rattle.std.proofs.Common.{◌≡◌, ◌≤◌, sum_by, take}
use Rattle.types.specs.Types.{cells_at, counted}
use Rattle.types.proofs.table.TypeTable.record_cells.Given as goal

-- the cells of the fields so far, which are few
abbrev pub invariant-loop-field : goal.invariant-loop-field
invariant-loop-field l = record {
  summed : l.cells ≡ sum_by (λ field. cells_at (counted l.self) field.type_id) (take l.field-index l.fields);
  few : l.cells ≤ 65536;
}
