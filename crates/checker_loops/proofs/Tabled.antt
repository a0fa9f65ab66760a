-- The rows of a program are as the laws of states ask: the first are those of variables, and each component is of one row.
use Rattle.std.proofs.Common.{[], refl}
use Rattle.typed_tree.specs.declared.tree.Tree.{Tree}
use Rattle.checker_rows.specs.Rows.{all_parts}
use Rattle.checker_rows.proofs.Accessed.{components-inner, indexes-lie, rows-apart}
use Rattle.checker_rows.proofs.Numbered.{own-parts}
use Rattle.checker_state.specs.Knows.{AreRows}
use Rattle.checker_state.specs.State.{table_of}

pub are-rows : (tree : Tree) → AreRows (all_parts tree) (table_of tree)
are-rows tree = record {
  own = own-parts tree;
  inner = λ row behind of_row. components-inner tree row [] behind of_row refl;
  apart = rows-apart tree;
  indexes = indexes-lie tree;
}
