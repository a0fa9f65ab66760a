use Rattle.std.proofs.Common.{◌≡◌, ℕ, suc, [], drop, length, map, replicate}
use Rattle.std.specs.Global.{Vec}
use Rattle.checker_loops.specs.BlockView.{with_roots}
use Rattle.checker_loops.proofs.starts.all_declared.Given as goal

-- what is left from here is what was to be done
abbrev pub invariant-loop-root : goal.invariant-loop-root
invariant-loop-root l = record {
  long : length l.found.items ≡ suc (length l.tree.blocks.items);
  left :
      with_roots (length l.tree.blocks.items) l.root (drop l.root l.tree.variables.items) (map (λ (row : Vec ℕ). row.items) l.found.items)
      ≡ with_roots (length l.tree.blocks.items) 0 l.tree.variables.items (replicate (suc (length l.tree.blocks.items)) []);
}
