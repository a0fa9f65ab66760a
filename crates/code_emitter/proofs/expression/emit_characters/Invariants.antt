use Rattle.std.proofs.Common.{drop, map}
use Rattle.std.specs.Prelude.{pos}
use Rattle.pcode_assembler.specs.declared.instr.Instr.TheVariants.{LoadConstant}
use Rattle.code_emitter.proofs.Emitted.{Left}
use Rattle.code_emitter.proofs.expression.emit_characters.Given as goal

abbrev pub invariant-loop-character : goal.invariant-loop-character
invariant-loop-character l =
    Left l.initial.code l.code (map (λ c. LoadConstant (pos c)) (drop l.character-index l.characters)) (map (λ c. LoadConstant (pos c)) l.characters)
