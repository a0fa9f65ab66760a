use Rattle.std.proofs.Common.{get_or}
use Rattle.std.proofs.lemmas.List.{get_or_default}
use Rattle.checker_rows.specs.View.{numbers}
use Rattle.checker_calls.proofs.GoneBehind.{behind-more}
use Rattle.checker_calls.proofs.exit.touch_roots.Goals as goal

pub loop-root-preserved : goal.loop-root-preserved
loop-root-preserved c =
    let roots = c.touched-root-items.result.now in
    let i = c.loop-root.root-index in
    let root = get_or roots i 0 in
    behind-more c.args.rows.now c.args.touches.now.changes c.args.touches.now.touched roots i root (numbers c.of_variable.result)
    c.touched-root-items.ensures c.loop-root-test.true (get_or_default roots i 0 root c.loop-root-test.true) c.of_variable.ensures c.loop-root.invariant
    c.touch_rows.ensures
