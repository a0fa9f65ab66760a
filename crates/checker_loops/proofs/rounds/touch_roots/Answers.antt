use Rattle.std.proofs.Common.{get_or, take}
use Rattle.std.proofs.lemmas.List.{get_or_default}
use Rattle.checker_rows.specs.Limits.{row_limits}
use Rattle.checker_rows.specs.Rows.{rows_of, rows_touched}
use Rattle.checker_rows.specs.View.{numbers}
use Rattle.checker_state.specs.Loops.{with_limits}
use Rattle.checker_trail.proofs.Ways.{moves-more}
use Rattle.checker_loops.proofs.Stepped.{rows-root}
use Rattle.checker_loops.proofs.rounds.touch_roots.Goals as goal

pub loop-root-preserved : goal.loop-root-preserved
loop-root-preserved c =
    let tree = c.args.rows.now in
    let limits = row_limits (rows_of tree) in
    let roots = c.args.roots.now in
    let i = c.loop-root.root-index in
    let root = get_or roots i 0 in
    let rows = numbers c.of_variable.result in
    moves-more (λ some. with_limits limits (rows_touched tree some)) (with_limits limits rows) roots i root c.loop-root-test.true
    (get_or_default roots i 0 root c.loop-root-test.true) c.loop-root.invariant c.touch_span.ensures
    (λ state. rows-root limits tree (take i roots) root rows state c.of_variable.ensures)
