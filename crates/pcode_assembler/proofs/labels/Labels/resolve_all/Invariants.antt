use Rattle.std.proofs.Common.{◌≡◌, ◌++◌, drop, map, take}
use Rattle.pcode_assembler.specs.Contents.{going_to, named}
use Rattle.pcode_assembler.specs.Reading.{seen_by}
use Rattle.pcode_assembler.proofs.labels.Labels.resolve_all.Given as goal

abbrev pub invariant-loop-instr : goal.invariant-loop-instr
invariant-loop-instr l =
    l.instructions ≡ map (going_to (named (seen_by l.self))) (take l.instr-index l.fn.instructions) ++ drop l.instr-index l.fn.instructions
