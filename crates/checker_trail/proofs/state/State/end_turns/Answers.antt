use Rattle.std.proofs.Common.{get_or, take}
use Rattle.std.proofs.lemmas.List.{get_or_default}
use Rattle.checker_trail.specs.Trail.{at_outside}
use Rattle.checker_trail.proofs.Outside.{all_outside, none-moves, outside-append, rest-moves}
use Rattle.checker_trail.proofs.Ways.{moves-more}
use Rattle.checker_trail.proofs.state.State.end_turns.Goals as goal

pub loop-root-preserved : goal.loop-root-preserved
loop-root-preserved c =
    let roots = c.args.touched.now in
    let depth = c.args.depth in
    let i = c.loop-root.root-index in
    let root = get_or roots i 0 in
    moves-more (all_outside depth) (at_outside depth root) roots i root c.loop-root-test.true (get_or_default roots i 0 root c.loop-root-test.true)
    c.loop-root.invariant c.end_growth.ensures (outside-append depth (take i roots) root)

pub returns-then-not-grows_outside : goal.returns-then-not-grows_outside
returns-then-not-grows_outside c =
    rest-moves c.args.depth (take c.loop-root.root-index c.args.touched.now) c.loop-root.invariant c.end_growths.ensures

pub returns-else-not-grows_outside : goal.returns-else-not-grows_outside
returns-else-not-grows_outside c =
    none-moves c.args.depth (take c.loop-root.root-index c.args.touched.now) c.if-not-grows_outside.ensures c.loop-root.invariant
