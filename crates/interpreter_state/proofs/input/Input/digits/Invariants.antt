use Rattle.std.proofs.Common.{◌≡◌, ◌≤◌, length}
use Rattle.text_input.specs.Input.{digits}
use Rattle.interpreter_state.specs.Views.{left_in}
use Rattle.interpreter_state.proofs.input.Input.digits.Given as goal

abbrev pub invariant-loop-byte : goal.invariant-loop-byte
invariant-loop-byte l = record {
  held : l.magnitude ≤ 2147483648;
  reads : digits l.is_negative l.first (left_in l.self) ≡ digits l.is_negative l.magnitude (left_in l.left);
}

abbrev pub decreases-loop-byte : goal.decreases-loop-byte
decreases-loop-byte l = length (left_in l.left)
