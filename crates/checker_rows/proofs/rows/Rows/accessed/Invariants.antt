use Rattle.std.proofs.Common.{◌≡◌, ◌<◌, ◌^◌, drop, map}
use Rattle.typed_tree.specs.Accesses.{origin_of}
use Rattle.checker_rows.specs.Rows.{leaf_step, rows_accessed}
use Rattle.checker_rows.specs.View.{end_of}
use Rattle.checker_rows.proofs.Variables.{part_under}
use Rattle.checker_rows.proofs.rows.Rows.accessed.Given as goal

-- the rows under the selectors are those under what is left of them in the part
abbrev pub invariant-loop-selector : goal.invariant-loop-selector
invariant-loop-selector l = record {
  fits : end_of l.self.types l.part < 2 ^ 64;
  same : part_under l.self.types (map leaf_step (drop l.selector-index l.access.selectors.items)) l.part
      ≡ rows_accessed l.self (origin_of l.access) l.access.selectors.items;
}
