use Rattle.std.proofs.Common.{◌∙◌, sym, ℕ}
use Rattle.checker_state.specs.View.{said_reach}
use Rattle.checker_calls.specs.Actuals.{Reached}
use Rattle.checker_calls.specs.Entry.{is_borne_between}
use Rattle.checker_calls.specs.View.{said_limits}
use Rattle.checker_trail.specs.Trail.{seen}
use Rattle.checker_calls.proofs.Spans.{all-row, all-rows, not-all}
use Rattle.checker_calls.proofs.entry.rows_between.Goals as goal

pub loop-row-preserved : goal.loop-row-preserved
loop-row-preserved c =
    let between = is_borne_between c.args.state.now.table.now (seen c.args.state.now) (said_limits c.args.limits.now) in
    let test = λ (row : ℕ). between (Reached row (said_reach c.args.reach.now)) in
    all-row test c.args.rows.first c.loop-row.row c.loop-row.auto.row c.loop-row.invariant
    (sym c.is_between.ensures ∙ c.if-not-is_between.false)

pub returns : goal.returns
returns c =
    let between = is_borne_between c.args.state.now.table.now (seen c.args.state.now) (said_limits c.args.limits.now) in
    let test = λ (row : ℕ). between (Reached row (said_reach c.args.reach.now)) in
    let rows = c.args.rows in
    all-rows test rows.first rows.count c.loop-row.row c.end-row-end.result c.end-row-end.ensures c.loop-row.auto.row-end c.loop-row-test.false
    c.loop-row.invariant

pub returns-then-not-is_between : goal.returns-then-not-is_between
returns-then-not-is_between c =
    let between = is_borne_between c.args.state.now.table.now (seen c.args.state.now) (said_limits c.args.limits.now) in
    let test = λ (row : ℕ). between (Reached row (said_reach c.args.reach.now)) in
    let rows = c.args.rows in
    not-all test rows.first rows.count c.loop-row.row c.end-row-end.result c.end-row-end.ensures c.loop-row.auto.row c.loop-row-test.true
    (sym c.is_between.ensures ∙ c.if-not-is_between.true)
