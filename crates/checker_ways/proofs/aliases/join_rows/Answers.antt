use Rattle.typed_tree.specs.declared.tree.Tree.{Tree}
use Rattle.checker_loops.specs.Aliases.{row_joined, rows_joined}
use Rattle.checker_ways.specs.View.{said_stored}
use Rattle.checker_loops.proofs.Stepped.{rows_to}
use Rattle.checker_ways.proofs.Stored.{rows-over}
use Rattle.checker_loops.proofs.Told.{told-row}
use Rattle.checker_ways.proofs.aliases.join_rows.Goals as goal

pub loop-row-preserved : goal.loop-row-preserved
loop-row-preserved c =
    let tree = c.args.state.now.table.now in
    let stored = said_stored c.args.stored.now in
    let first = c.args.span.first in
    let row = c.loop-row.row in
    told-row (rows_joined tree stored) (λ (t : Tree). row_joined t stored row) first row c.loop-row.auto.row c.loop-row.invariant c.join_row.ensures
    (rows-over tree stored (rows_to first row) row)
