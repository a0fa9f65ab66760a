use Rattle.std.proofs.Common.{◌≡◌, ◌++◌, map, take}
use Rattle.meaning.specs.Effect.{number_of}
use Rattle.meaning.specs.Integers.{byte_of}
use Rattle.interpreter_state.proofs.text.write_bytes.Given as goal

abbrev pub invariant-loop-value : goal.invariant-loop-value
invariant-loop-value l = l.output.items ≡ l.initial.output.items ++ map (λ v. byte_of (number_of v)) (take l.value-index l.row)
