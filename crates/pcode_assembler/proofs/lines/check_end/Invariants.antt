use Rattle.std.proofs.Common.{◌≡◌, ◌+◌, ◌≤◌, false, length}
use Rattle.text_lines.specs.Lines.{lines}
use Rattle.pcode_assembler.specs.Text.{ends}
use Rattle.pcode_assembler.proofs.lines.check_end.Given as goal

abbrev pub invariant-loop-line : goal.invariant-loop-line
invariant-loop-line l =
    (ends l.is_end (lines l.rest) ≡ ends false (lines l.text))
    × (l.count + length (lines l.rest) ≡ length (lines l.text)) × (l.count + length l.rest ≤ length l.text)

abbrev pub decreases-loop-line : goal.decreases-loop-line
decreases-loop-line l = length l.rest
