use Rattle.std.proofs.Common.{◌≡◌, true, take}
use Rattle.pcode_assembler.specs.Contents.{body_lines}
use Rattle.pcode_assembler.specs.Writing.{AppendsLines, have_numbers}
use Rattle.pcode_assembler.proofs.writer.put_instructions.Given as goal

abbrev pub invariant-loop-place : goal.invariant-loop-place
invariant-loop-place l =
    AppendsLines (body_lines l.code 0 (take l.place l.code)) l.initial.writer l.writer × (have_numbers (take l.place l.code) ≡ true)
