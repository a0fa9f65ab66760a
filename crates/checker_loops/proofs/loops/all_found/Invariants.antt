use Rattle.std.proofs.Common.{map, take}
use Rattle.certificate.specs.Contents.{section_of}
use Rattle.checker_loops.specs.Loops.{found_in}
use Rattle.checker_loops.specs.View.{AreFound}
use Rattle.checker_loops.proofs.loops.all_found.Given as goal

-- the claims so far
abbrev pub invariant-loop-section : goal.invariant-loop-section
invariant-loop-section l =
    AreFound l.initial.found.items l.found.items (λ number. found_in number (map section_of (take l.section-index l.section-items)))
