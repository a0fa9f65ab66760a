use Rattle.std.proofs.Common.{◌∙◌, ap, sym, ℕ}
use Rattle.domain.specs.Interval.{Interval, is_included}
use Rattle.checker_state.specs.State.{range_of}
use Rattle.checker_trail.specs.Trail.{seen}
use Rattle.checker_calls.proofs.Spans.{all-row, all-rows, not-all}
use Rattle.checker_calls.proofs.entry.rows_within.Goals as goal

pub loop-row-preserved : goal.loop-row-preserved
loop-row-preserved c =
    let test = λ (row : ℕ). is_included (range_of (seen c.args.state.now) row) c.args.range in
    all-row test c.args.rows.first c.loop-row.row c.loop-row.auto.row c.loop-row.invariant
    (ap (λ (one : Interval). is_included one c.args.range) (sym c.row_range.ensures) ∙ sym c.leq.ensures.answer ∙ c.if-not-leq.false)

pub returns : goal.returns
returns c =
    let test = λ (row : ℕ). is_included (range_of (seen c.args.state.now) row) c.args.range in
    let rows = c.args.rows in
    all-rows test rows.first rows.count c.loop-row.row c.end-row-end.result c.end-row-end.ensures c.loop-row.auto.row-end c.loop-row-test.false
    c.loop-row.invariant

pub returns-then-not-leq : goal.returns-then-not-leq
returns-then-not-leq c =
    let test = λ (row : ℕ). is_included (range_of (seen c.args.state.now) row) c.args.range in
    let rows = c.args.rows in
    not-all test rows.first rows.count c.loop-row.row c.end-row-end.result c.end-row-end.ensures c.loop-row.auto.row c.loop-row-test.true
    (ap (λ (one : Interval). is_included one c.args.range) (sym c.row_range.ensures) ∙ sym c.leq.ensures.answer ∙ c.if-not-leq.true)
