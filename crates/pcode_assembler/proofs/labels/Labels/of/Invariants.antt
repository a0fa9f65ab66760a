use Rattle.std.proofs.Common.{◌≡◌, ℕ, ◌+◌, ◌≤◌, length}
use Rattle.pcode_assembler.specs.Reading.{or_label, seen_by}
use Rattle.pcode_assembler.specs.Text.{body, first_label, instruction_count}
use Rattle.pcode_assembler.proofs.labels.Labels.of.Given as goal

abbrev pub invariant-loop-line : goal.invariant-loop-line
invariant-loop-line l =
    ((q : ℕ) → or_label ((seen_by l.labels).first q) (first_label q l.number l.labels.instructions (body l.rest))
    ≡ first_label q 1 0 (body l.text))
    × (l.labels.instructions + instruction_count (body l.rest) ≡ instruction_count (body l.text))
    × (l.number + length l.rest ≤ length l.text + 1) × (l.labels.instructions + 1 ≤ l.number)

abbrev pub decreases-loop-line : goal.decreases-loop-line
decreases-loop-line l = length l.rest
