use Rattle.std.proofs.Common.{◌≡◌, map, take}
use Rattle.std.specs.Prelude.{flat_map}
use Rattle.certificate.specs.Contents.{section_of}
use Rattle.checker_loops.specs.Sections.{pair_of}
use Rattle.checker_loops.proofs.sections.all_pairs.Given as goal

-- so far
abbrev pub invariant-loop-section : goal.invariant-loop-section
invariant-loop-section l =
    map pair_of l.pairs.items ≡ flat_map (λ section. map pair_of section.aliases) (map section_of (take l.section-index l.section-items))
