use Rattle.std.proofs.Common.{◌≡◌, drop}
use Rattle.interpreter_state.specs.Answers.{arm_at}
use Rattle.interpreter_state.proofs.arms.arm_at.Given as goal

-- no constants held it so far
abbrev pub invariant-loop-place : goal.invariant-loop-place
invariant-loop-place l = arm_at (drop l.place l.constants) (drop l.place l.arms) l.index ≡ arm_at l.constants l.arms l.index
