use Rattle.std.proofs.Common.{get_or, take}
use Rattle.std.specs.Prelude.{slice_get}
use Rattle.std.proofs.lemmas.List.{get_or_default}
use Rattle.typed_tree.specs.declared.tree.Tree.{Tree}
use Rattle.checker_loops.specs.BlockView.{all_begun, begun}
use Rattle.checker_loops.proofs.Beginning.{begun-over}
use Rattle.checker_loops.proofs.Told.{told-more}
use Rattle.checker_loops.proofs.starts.begin_all.Goals as goal

pub loop-root-preserved : goal.loop-root-preserved
loop-root-preserved c =
    let tree = c.args.state.now.table.now in
    let roots = c.args.roots.now in
    let i = c.loop-root.root-index in
    let root = get_or roots i 0 in
    let block = c.args.block in
    told-more (all_begun tree block) (λ (t : Tree). begun t block root (slice_get t.variables.items root)) roots i root c.loop-root-test.true
    (get_or_default roots i 0 root c.loop-root-test.true) c.loop-root.invariant c.begin.ensures (begun-over tree block (take i roots) root)
