use Rattle.std.proofs.Common.{◌≡◌, drop}
use Rattle.std.specs.Prelude.{flat_map}
use Rattle.typed_tree.specs.Entries.{entries_of_block}
use Rattle.checker_expressions.specs.Visits.{all_counted}
use Rattle.cert_checker.specs.declared.walk.Walk.{Walk}
use Rattle.cert_checker.specs.Walk.{blocks_walk}
use Rattle.cert_checker.specs.View.{Passes}
use Rattle.cert_checker.proofs.walk.Walk.blocks.Given as goal

-- whatever the checker does over the blocks that are left, it did over them all, and so it is with their entries
abbrev pub invariant-loop-number : goal.invariant-loop-number
invariant-loop-number g l =
    ((new : Walk) → Passes (blocks_walk l.number (drop l.number l.tree.blocks.items)) l.declared l.self new
    → Passes (blocks_walk 0 l.tree.blocks.items) l.declared l.fn.self new)
    × (all_counted g.C.Count.counted (flat_map entries_of_block (drop l.number l.tree.blocks.items)) l.visits
    ≡ all_counted g.C.Count.counted (flat_map entries_of_block l.tree.blocks.items) l.fn.visits)
