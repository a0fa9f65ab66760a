use Rattle.std.proofs.Common.{◌≡◌, sym, ◌∙◌, true, false, refl, arith}
use Rattle.pcode_assembler.specs.Lines.{is_instruction}
use Rattle.pcode_assembler.proofs.LabelLines.{noted}
use Rattle.pcode_assembler.proofs.labels.Labels.note.Goals as goal

pub returns-then-is_instruction : goal.returns-then-is_instruction
returns-then-is_instruction c =
    let is : is_instruction c.args.line.now ≡ true = sym c.is_instruction.ensures ∙ c.if-is_instruction.true in
    noted c.args.self.now c.note_label.new.self _ c.label_of.result c.args.number c.args.line.now
    c.label_of.ensures c.in_ok-note_label.ensures refl (rw is refl)

pub returns-else-is_instruction : goal.returns-else-is_instruction
returns-else-is_instruction c =
    let is : is_instruction c.args.line.now ≡ false = sym c.is_instruction.ensures ∙ c.if-is_instruction.false in
    noted c.args.self.now c.note_label.new.self _ c.label_of.result c.args.number c.args.line.now
    c.label_of.ensures c.in_ok-note_label.ensures refl (rw is (omega arith))
