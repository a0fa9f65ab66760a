use Rattle.std.proofs.Common.{◌≡◌, length}
use Rattle.text_input.specs.Input.{read_integer}
use Rattle.interpreter_state.specs.Views.{left_in}
use Rattle.interpreter_state.proofs.input.Input.integer.Given as goal

abbrev pub invariant-loop-byte : goal.invariant-loop-byte
invariant-loop-byte l = read_integer (left_in l.self) ≡ read_integer (left_in l.left)

abbrev pub decreases-loop-byte : goal.decreases-loop-byte
decreases-loop-byte l = length (left_in l.left)
