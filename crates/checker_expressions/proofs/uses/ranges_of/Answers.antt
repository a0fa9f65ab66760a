use Rattle.std.proofs.Common.{◌∙◌, sym, ap, ◌+◌, ◌++◌, append-nil}
use Rattle.checker_trail.specs.Trail.{seen}
use Rattle.checker_expressions.specs.Walk.{ranges_of}
use Rattle.checker_expressions.proofs.RowUses.{from-first, ranges-cut, rows-past, rows_from}
use Rattle.checker_expressions.proofs.uses.ranges_of.Goals as goal

pub loop-row-init : goal.loop-row-init
loop-row-init c =
    let state = seen c.args.state.now in
    let end = c.end-row-end.result in
    ap (ranges_of state) (sym (from-first c.args.span end c.end-row-end.ensures))
    ∙ ap (λ items. items ++ ranges_of state (rows_from c.args.span.first end)) (sym c.new-ranges.ensures.items)

pub loop-row-preserved : goal.loop-row-preserved
loop-row-preserved c =
    let state = seen c.args.state.now in
    let row = c.loop-row.row in
    let end = c.end-row-end.result in
    c.loop-row.invariant ∙ ranges-cut state row end c.loop-row.ranges.items c.loop-row-test.true c.row_range.ensures
    ∙ ap (λ pushed. pushed ++ ranges_of state (rows_from (row + 1) end)) (sym c.in_ok-push.ensures.items)

pub returns : goal.returns
returns c =
    let items = c.loop-row.ranges.items in
    sym (c.loop-row.invariant
    ∙ ap (λ rows. items ++ ranges_of (seen c.args.state.now) rows) (rows-past c.loop-row.row c.end-row-end.result c.loop-row-test.false)
    ∙ append-nil items)
