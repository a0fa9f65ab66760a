use Rattle.std.proofs.Common.{◌+◌, ◌≤◌, length}
use Rattle.pcode_assembler.specs.Reading.{seen_by}
use Rattle.pcode_assembler.specs.Text.{body}
use Rattle.pcode_assembler.proofs.Steps.{SoFar}
use Rattle.pcode_assembler.proofs.assembler.lines_below.Given as goal

abbrev pub invariant-loop-line : goal.invariant-loop-line
invariant-loop-line l =
    SoFar (seen_by l.labels) (body l.below) l.code l.above l.number (body l.rest)
    × (l.number + length l.rest ≤ length l.below + 2)

abbrev pub decreases-loop-line : goal.decreases-loop-line
decreases-loop-line l = length l.rest
