use Rattle.std.proofs.Common.{◌+◌, ◌≤◌, length, map}
use Rattle.text_lines.specs.Lines.{lines}
use Rattle.certificate.specs.Building.{said_above}
use Rattle.certificate.specs.Contents.{section_of}
use Rattle.certificate.proofs.Reading.{SoFar}
use Rattle.certificate.proofs.reader.sections.Given as goal

abbrev pub invariant-loop-line : goal.invariant-loop-line
invariant-loop-line l =
    SoFar l.version (lines l.below) (map section_of l.sections.items) (said_above l.above) l.number (lines l.rest)
    × (l.number + length l.rest ≤ length l.below + 2)

abbrev pub decreases-loop-line : goal.decreases-loop-line
decreases-loop-line l = length l.rest
