use Rattle.std.proofs.Common.{◌≡◌, ◌++◌, length, map, take}
use Rattle.std.specs.Prelude.{flat_map}
use Rattle.checker_rows.specs.View.{firsts_from, own_ranges, variable_ranges}
use Rattle.checker_rows.proofs.rows.Rows.of.Given as goal

-- those of the variables so far
abbrev pub invariant-loop-root : goal.invariant-loop-root
invariant-loop-root l = record {
  firsts : l.firsts.items ≡ firsts_from l.tree.types 0 (length l.tree.variables.items) (take l.root l.tree.variables.items);
  rows : l.rows.items
      ≡ map (own_ranges l.tree.types) l.tree.variables.items ++ flat_map (variable_ranges l.tree.types) (take l.root l.tree.variables.items);
}
