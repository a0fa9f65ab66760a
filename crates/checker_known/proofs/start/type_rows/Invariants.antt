use Rattle.std.proofs.Common.{◌≡◌, map, take}
use Rattle.checker_known.specs.View.{said_row, type_rows}
use Rattle.checker_known.proofs.start.type_rows.Given as goal

abbrev pub invariant-loop-row : goal.invariant-loop-row
invariant-loop-row l = map said_row l.rows.items ≡ take l.row (type_rows l.table)
