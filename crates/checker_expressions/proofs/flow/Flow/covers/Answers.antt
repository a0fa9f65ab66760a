use Rattle.std.proofs.Common.{◌∙◌, sym, ap, Bool, ◌&&◌, ◌+◌}
use Rattle.checker_state.specs.View.{said_reach}
use Rattle.checker_expressions.specs.View.{state_of}
use Rattle.checker_expressions.specs.Walk.{is_covered}
use Rattle.checker_expressions.proofs.RowUses.{covered-cut, from-first, rows-past, rows_from}
use Rattle.checker_expressions.proofs.flow.Flow.covers.Goals as goal

pub loop-row-init : goal.loop-row-init
loop-row-init c =
    let flow = c.args.self.now in
    ap (is_covered flow.state.table.now (state_of flow) (said_reach c.args.reach.now))
    (sym (from-first c.args.span c.end-row-end.result c.end-row-end.ensures))

pub loop-row-preserved : goal.loop-row-preserved
loop-row-preserved c =
    let tree = c.args.self.now.state.table.now in
    let state = state_of c.args.self.now in
    let reach = said_reach c.args.reach.now in
    let row = c.loop-row.row in
    let end = c.end-row-end.result in
    c.loop-row.invariant ∙ covered-cut tree state reach row end c.loop-row-test.true c.gives_reached.ensures
    ∙ ap (λ (gives : Bool). gives && is_covered tree state reach (rows_from (row + 1) end)) c.if-not-gives_reached.false

pub returns : goal.returns
returns c =
    let flow = c.args.self.now in
    sym (c.loop-row.invariant
    ∙ ap (is_covered flow.state.table.now (state_of flow) (said_reach c.args.reach.now))
    (rows-past c.loop-row.row c.end-row-end.result c.loop-row-test.false))

pub returns-then-not-gives_reached : goal.returns-then-not-gives_reached
returns-then-not-gives_reached c =
    let tree = c.args.self.now.state.table.now in
    let state = state_of c.args.self.now in
    let reach = said_reach c.args.reach.now in
    let row = c.loop-row.row in
    let end = c.end-row-end.result in
    sym (c.loop-row.invariant ∙ covered-cut tree state reach row end c.loop-row-test.true c.gives_reached.ensures
    ∙ ap (λ (gives : Bool). gives && is_covered tree state reach (rows_from (row + 1) end)) c.if-not-gives_reached.true)
