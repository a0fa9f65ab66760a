use Rattle.std.proofs.Common.{◌≡◌, drop}
use Rattle.code_emitter.specs.Emitted.{with_each}
use Rattle.pcode_assembler.specs.declared.instr.Instr.TheVariants.{Jump}
use Rattle.code_emitter.proofs.emitter.Emitter.set_jumps.Given as goal

abbrev pub invariant-loop-place : goal.invariant-loop-place
invariant-loop-place l = with_each (drop l.place-index l.places) (Jump l.target) l.self ≡ with_each l.places (Jump l.target) l.initial.self
