use Rattle.std.specs.Prelude.{option_map}
use Rattle.checker_calls.specs.View.{said_within}
use Rattle.checker_loops.proofs.Stepped.{moves-row, rows_to}
use Rattle.checker_calls.specs.Actuals.{all_of_rows}
use Rattle.checker_calls.specs.Exit.{bearers_defined, row_defined}
use Rattle.checker_calls.proofs.GoneBehind.{defined-row}
use Rattle.checker_calls.proofs.exit.define_rows.Goals as goal

pub loop-row-preserved : goal.loop-row-preserved
loop-row-preserved c =
    let tree = c.args.rows.now in
    let within = option_map said_within c.args.within in
    let first = c.args.span.first in
    let row = c.loop-row.row in
    moves-row (λ rows. bearers_defined tree within (all_of_rows rows)) (row_defined tree within row) first row c.loop-row.auto.row c.loop-row.invariant
    c.define_row.ensures (λ state. defined-row tree within (rows_to first row) row state)
