use Rattle.std.proofs.Common.{[]}
use Rattle.typed_tree.specs.declared.tree.Tree.{Tree}
use Rattle.checker_rows.specs.Rows.{rows_under}
use Rattle.checker_rows.specs.View.{numbers}
use Rattle.checker_trail.proofs.Ways.{moves-told}
use Rattle.checker_loops.specs.BlockView.{rows_vacant}
use Rattle.checker_loops.proofs.Beginning.{vacant-moves}
use Rattle.checker_loops.proofs.starts.begin_undefined.Goals as goal

pub returns : goal.returns
returns c =
    moves-told (λ (tree : Tree). rows_vacant (rows_under tree c.args.root [])) c.set_range.ensures
    (vacant-moves c.table.result.now c.args.root (numbers c.of_variable-rows.result) c.table.ensures c.of_variable-rows.ensures c.clear.ensures)
