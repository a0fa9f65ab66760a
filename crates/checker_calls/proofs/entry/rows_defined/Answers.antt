use Rattle.std.proofs.Common.{◌∙◌, sym}
use Rattle.checker_state.specs.State.{table_of}
use Rattle.checker_state.specs.Stores.{gives_reached}
use Rattle.checker_state.specs.View.{said_reach}
use Rattle.checker_trail.specs.Trail.{seen}
use Rattle.checker_calls.proofs.Spans.{all-row, all-rows, not-all}
use Rattle.checker_calls.proofs.entry.rows_defined.Goals as goal

pub loop-row-preserved : goal.loop-row-preserved
loop-row-preserved c =
    let test = gives_reached (table_of c.args.state.now.table.now) (seen c.args.state.now) (said_reach c.args.reach.now) in
    all-row test c.args.rows.first c.loop-row.row c.loop-row.auto.row c.loop-row.invariant
    (sym c.gives_reached.ensures ∙ c.if-not-gives_reached.false)

pub returns : goal.returns
returns c =
    let test = gives_reached (table_of c.args.state.now.table.now) (seen c.args.state.now) (said_reach c.args.reach.now) in
    let rows = c.args.rows in
    all-rows test rows.first rows.count c.loop-row.row c.end-row-end.result c.end-row-end.ensures c.loop-row.auto.row-end c.loop-row-test.false
    c.loop-row.invariant

pub returns-then-not-gives_reached : goal.returns-then-not-gives_reached
returns-then-not-gives_reached c =
    let test = gives_reached (table_of c.args.state.now.table.now) (seen c.args.state.now) (said_reach c.args.reach.now) in
    let rows = c.args.rows in
    not-all test rows.first rows.count c.loop-row.row c.end-row-end.result c.end-row-end.ensures c.loop-row.auto.row c.loop-row-test.true
    (sym c.gives_reached.ensures ∙ c.if-not-gives_reached.true)
