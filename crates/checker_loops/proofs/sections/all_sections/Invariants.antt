use Rattle.std.proofs.Common.{take}
use Rattle.checker_loops.specs.BlockView.{AreFound, first_on}
use Rattle.checker_loops.proofs.sections.all_sections.Given as goal

-- the claims so far
abbrev pub invariant-loop-section : goal.invariant-loop-section
invariant-loop-section l =
    AreFound l.initial.found.items l.found.items (λ number. first_on number (take l.section-index l.section-items))
