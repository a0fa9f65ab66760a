use Rattle.std.proofs.Common.{None, get_or, take}
use Rattle.std.proofs.lemmas.List.{get_or_default}
use Rattle.checker_trail.specs.Trail.{all_ungrown, with_growth_at}
use Rattle.checker_trail.proofs.Outside.{ungrown-append}
use Rattle.checker_trail.proofs.Ways.{moves-more}
use Rattle.checker_trail.proofs.state.State.stop_growing.Goals as goal

pub loop-root-preserved : goal.loop-root-preserved
loop-root-preserved c =
    let roots = c.args.roots.now in
    let i = c.loop-root.root-index in
    let root = get_or roots i 0 in
    moves-more all_ungrown (with_growth_at root None) roots i root c.loop-root-test.true (get_or_default roots i 0 root c.loop-root-test.true)
    c.loop-root.invariant c.set_growth.ensures (ungrown-append (take i roots) root)
