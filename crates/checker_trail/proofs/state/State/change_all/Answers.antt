use Rattle.std.proofs.Common.{None, get_or, take}
use Rattle.std.proofs.lemmas.List.{get_or_default}
use Rattle.checker_state.specs.Changes.{all_changed, with_change}
use Rattle.checker_trail.proofs.Ways.{moves-more}
use Rattle.checker_trail.proofs.Steps.{changed-append}
use Rattle.checker_trail.proofs.state.State.change_all.Goals as goal

pub loop-root-preserved : goal.loop-root-preserved
loop-root-preserved c =
    let roots = c.args.roots.now in
    let i = c.loop-root.root-index in
    let root = get_or roots i 0 in
    moves-more all_changed (with_change root None) roots i root c.loop-root-test.true (get_or_default roots i 0 root c.loop-root-test.true)
    c.loop-root.invariant c.change.ensures (changed-append (take i roots) root)
