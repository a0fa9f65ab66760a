use Rattle.std.proofs.Common.{get_or, take}
use Rattle.std.proofs.lemmas.List.{get_or_default}
use Rattle.checker_state.specs.Loops.{all_forgotten, with_forgotten}
use Rattle.checker_trail.proofs.Ways.{moves-more}
use Rattle.checker_trail.proofs.Turns.{forgotten-append}
use Rattle.checker_trail.proofs.state.State.forget_all.Goals as goal

pub loop-root-preserved : goal.loop-root-preserved
loop-root-preserved c =
    let roots = c.args.roots.now in
    let i = c.loop-root.root-index in
    let root = get_or roots i 0 in
    moves-more all_forgotten (with_forgotten root) roots i root c.loop-root-test.true (get_or_default roots i 0 root c.loop-root-test.true)
    c.loop-root.invariant c.forget.ensures (forgotten-append (take i roots) root)
