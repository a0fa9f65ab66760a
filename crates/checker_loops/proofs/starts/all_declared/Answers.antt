use Rattle.std.proofs.Common.{arith, ◌≡◌, ◌∙◌, ◌++◌, ◌∷◌, [], ap, get_or, length, map, min, rules, sym, ℕ, List}
use Rattle.std.specs.Global.{Vec}
use Rattle.std.proofs.lemmas.List.{drop_all, length-map, length-set}
use Rattle.typed_tree.specs.declared.tree.Variable.{Variable}
use Rattle.checker_loops.specs.BlockView.{with_roots}
use Rattle.checker_loops.proofs.Beginning.{roots-next, table-is}
use Rattle.checker_loops.proofs.starts.all_declared.Goals as goal

abbrev rows_in : List (Vec ℕ) → List (List ℕ)
rows_in rows = map (λ (row : Vec ℕ). row.items) rows

long-same : (rows : List (Vec ℕ)) → length (rows_in rows) ≡ length rows
long-same rows = length-map rows (λ (row : Vec ℕ). row.items)

pub loop-root-preserved : goal.loop-root-preserved
loop-root-preserved c =
    let blocks = length c.args.tree.now.blocks.items in
    let declared : List Variable = c.args.tree.now.variables.items in
    let root = c.loop-root.root in
    let old = c.loop-root.found.items in
    let new = c.declare.new.rows.items in
    let so_far = c.loop-root.invariant in
    let place = c.min.result in
    let put = c.in_ok-declare.ensures in
    let same = ap length put in
    let set = length-set (rows_in old) place (get_or (rows_in old) place [] ++ root ∷ []) in
    let place_is : place ≡ min c.index.result.now.block blocks = search rules in
    record {
      long = omega (arith, same, set, long-same old, long-same new, so_far.long);
      left =
          roots-next blocks root place declared c.index.result.now (rows_in old) (rows_in new) _ (omega (arith, c.loop-root-test.true, c.in-Some.ensures.count))
          c.index.ensures place_is put so_far.left;
    }

pub returns : goal.returns
returns c =
    let tree = c.args.tree.now in
    let declared : List Variable = tree.variables.items in
    let root = c.loop-root.root in
    let past = drop_all root declared (omega (arith, c.loop-root-test.false, c.in-Some.ensures.count)) in
    ap (λ rest. with_roots (length tree.blocks.items) root rest (rows_in c.loop-root.found.items)) (sym past) ∙ c.loop-root.invariant.left ∙ table-is tree
