use Rattle.text_lines.specs.Writing.{written}
use Rattle.pcode_assembler.proofs.Written.{numbers_next, written_next}
use Rattle.pcode_assembler.proofs.writer.put_instructions.Goals as goal

pub loop-place-preserved : goal.loop-place-preserved
loop-place-preserved c =
    let code = c.args.code.now in
    let within = c.loop-place-test.true in
    let instr = c.index-code-place in (
      λ whole.
          let line = c.put_instruction.ensures.line whole in
          let label = c.put_label.ensures line.0 in
          let before = c.loop-place.invariant.0 label.0 in (
            before.0,
            written_next code c.loop-place.place instr.result c.args.targets.now (written c.args.writer.now) (written c.loop-place.writer)
                (written c.put_label.new.writer) _ c.requires within instr.is before.1 label.1 line.1,
          ),
      numbers_next code c.loop-place.place instr.result within instr.is c.loop-place.invariant.1 c.put_instruction.ensures.numbers,
    )
