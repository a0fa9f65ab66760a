use Rattle.std.proofs.Common.{◌≡◌, map, take}
use Rattle.checker_rows.specs.View.{own_ranges}
use Rattle.checker_rows.proofs.rows.own_rows.Given as goal

-- those of the variables so far
abbrev pub invariant-loop-variable : goal.invariant-loop-variable
invariant-loop-variable l = l.rows.items ≡ map (own_ranges l.types) (take l.variable-index l.variables)
