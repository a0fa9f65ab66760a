use Rattle.std.proofs.Common.{map, take}
use Rattle.std.specs.List.{flat_map}
use Rattle.text_lines.specs.Writing.{Appends}
use Rattle.certificate.specs.Contents.{section_of}
use Rattle.certificate.specs.Writing.{section_text}
use Rattle.certificate.proofs.writer.put_sections.Given as goal

abbrev pub invariant-loop-section : goal.invariant-loop-section
invariant-loop-section l = Appends (flat_map section_text (map section_of (take l.section-index l.sections))) l.initial.writer l.writer
