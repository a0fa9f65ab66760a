use Rattle.std.proofs.Common.{ap, sym, ◌∙◌, arith}
use Rattle.pcode_assembler.specs.Reading.{or_label, seen_by}
use Rattle.pcode_assembler.specs.Text.{body, first_label, instruction_count}
use Rattle.pcode_assembler.proofs.LabelLines.{noted_next, weight_small}
use Rattle.pcode_assembler.proofs.labels.Labels.of.Goals as goal

pub loop-line-preserved : goal.loop-line-preserved
loop-line-preserved c =
    let old = c.loop-line.labels in
    let notes = c.in_ok-note.ensures in
    let lines = c.in-Some.ensures in
    let count = ap instruction_count lines.0 in (
      λ q. noted_next q c.loop-line.number c.in-Some.line.now (body c.in-Some.more.now) _ old c.note.new.self notes
          (ap (λ ls. or_label ((seen_by old).first q) (first_label q c.loop-line.number old.instructions ls)) (sym lines.0)
          ∙ c.loop-line.invariant.0 q),
      omega (arith, c.loop-line.invariant.1, notes.instructions, count),
      omega (arith, c.loop-line.invariant.2, lines.1),
      omega (arith, c.loop-line.invariant.3, notes.instructions, weight_small c.in-Some.line.now),
    )
