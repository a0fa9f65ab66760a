use Rattle.std.proofs.Common.{◌≡◌, ◌<◌, ◌^◌, take}
use Rattle.pcode_assembler.specs.Words.{hexadecimal_value}
use Rattle.pcode_assembler.proofs.words.hexadecimal_value.Given as goal

abbrev pub invariant-loop-digit : goal.invariant-loop-digit
invariant-loop-digit l = (l.value < 16 ^ l.digit-index) × (l.value ≡ hexadecimal_value (take l.digit-index l.digits))
