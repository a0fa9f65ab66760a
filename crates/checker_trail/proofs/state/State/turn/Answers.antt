use Rattle.typed_tree.specs.declared.tree.Tree.{Tree}
use Rattle.checker_rows.specs.Limits.{row_limits}
use Rattle.checker_rows.specs.Rows.{rows_of}
use Rattle.checker_state.specs.Loops.{with_limits}
use Rattle.checker_trail.proofs.Ways.{moves-then, moves-told}
use Rattle.checker_trail.proofs.state.State.turn.Goals as goal

pub returns : goal.returns
returns c =
    moves-then (moves-told (λ (tree : Tree). with_limits (row_limits (rows_of tree)) c.args.rows.now) c.change_all.ensures c.touch_all.ensures)
    c.forget_all.ensures
