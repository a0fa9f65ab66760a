use Rattle.std.proofs.Common.{◌≡◌, ◌++◌, replicate}
use Rattle.interpreter_state.proofs.text.indent.Given as goal

abbrev pub invariant-loop-space : goal.invariant-loop-space
invariant-loop-space l = l.output.items ≡ l.initial.output.items ++ replicate l._space 32
