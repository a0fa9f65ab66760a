use Rattle.std.proofs.Common.{◌≡◌, map, filter, not}
use Rattle.std.specs.List.{range_with_len}
use Rattle.certificate.specs.Contents.{section_of as contents_of}
use Rattle.plain_certificate.specs.Widest.{is_vacant, section_of}
use Rattle.plain_certificate.proofs.sections.sections.Given as goal

abbrev pub invariant-loop-block : goal.invariant-loop-block
invariant-loop-block l =
    map contents_of l.sections.items ≡ filter (λ section. not (is_vacant section)) (map (section_of l.tree) (range_with_len 0 l.block))
