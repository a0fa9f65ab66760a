use Rattle.std.proofs.Common.{take}
use Rattle.pcode_assembler.specs.Writing.{Marks}
use Rattle.pcode_assembler.proofs.writer.targets.Given as goal

abbrev pub invariant-loop-instr : goal.invariant-loop-instr
invariant-loop-instr l = Marks l.code (take l.instr-index l.code) l.targets.items
