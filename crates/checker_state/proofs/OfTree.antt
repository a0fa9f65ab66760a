-- The rows of a program are as its table tells.
use Rattle.std.proofs.Common.{refl, []}
use Rattle.typed_tree.specs.declared.tree.Tree.{Tree}
use Rattle.checker_rows.specs.Rows.{all_parts}
use Rattle.checker_rows.proofs.Accessed.{components-inner, indexes-lie, rows-apart}
use Rattle.checker_rows.proofs.Numbered.{own-parts}
use Rattle.checker_state.specs.State.{table_of}
use Rattle.checker_state.specs.Knows.{AreRows}

pub rows-told : (tree : Tree) → AreRows (all_parts tree) (table_of tree)
rows-told tree = record {
  own = own-parts tree;
  inner = λ row beyond of_row. components-inner tree row [] beyond of_row refl;
  apart = rows-apart tree;
  indexes = indexes-lie tree;
}
