use Rattle.std.proofs.Common.{◌≡◌, map, take}
use Rattle.checker_loops.specs.BlockView.{found_claims, said_section}
use Rattle.checker_loops.proofs.sections.all_block_claims.Given as goal

-- so far
abbrev pub invariant-loop-section : goal.invariant-loop-section
invariant-loop-section l = map said_section l.kept.items ≡ map found_claims (take l.section-index l.section-items)
