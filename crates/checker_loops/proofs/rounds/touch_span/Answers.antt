use Rattle.std.proofs.Common.{ℕ, List, ap, refl}
use Rattle.std.specs.List.{range_with_len}
use Rattle.checker_rows.specs.Limits.{row_limits}
use Rattle.checker_rows.specs.Rows.{rows_of}
use Rattle.checker_state.specs.Loops.{with_limits}
use Rattle.checker_state.specs.State.{with_range}
use Rattle.checker_trail.specs.Trail.{seen}
use Rattle.checker_trail.proofs.Ways.{moves-as}
use Rattle.checker_loops.proofs.Stepped.{limits-row, moves-row, rows-begin, rows-whole, rows_to}
use Rattle.checker_loops.proofs.rounds.touch_span.Goals as goal

pub loop-row-init : goal.loop-row-init
loop-row-init c = rows-begin (with_limits (row_limits (rows_of c.args.rows.now))) c.args.span.first c.args.state.now (λ state. refl)

pub loop-row-preserved : goal.loop-row-preserved
loop-row-preserved c =
    let limits = row_limits (rows_of c.args.rows.now) in
    let first = c.args.span.first in
    let row = c.loop-row.row in
    let range = c.row_limits.result in
    moves-row (with_limits limits) (with_range row range) first row c.loop-row.auto.row c.loop-row.invariant c.set_range.ensures
    (λ state. limits-row limits (rows_to first row) row range state c.row_limits.ensures)

pub returns : goal.returns
returns c =
    let steps = with_limits (row_limits (rows_of c.args.rows.now)) in
    let span = c.args.span in
    moves-as (steps (range_with_len span.first span.count)) c.loop-row.invariant
    (ap (λ (rows : List ℕ). steps rows (seen c.args.state.now))
    (rows-whole span.first span.count c.loop-row.row c.end-row-end.result c.end-row-end.ensures c.loop-row.auto.row-end c.loop-row-test.false))
