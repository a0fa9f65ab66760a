use Rattle.std.proofs.Common.{◌≡◌, drop}
use Rattle.checker_state.specs.Stores.{entire}
use Rattle.checker_state.specs.View.{said_reach}
use Rattle.checker_expressions.specs.Walk.{behind_steps}
use Rattle.checker_expressions.proofs.walk.behind.Given as goal

-- what is reached behind all steps is what is reached behind those that are left
abbrev pub invariant-loop-step : goal.invariant-loop-step
invariant-loop-step l = behind_steps l.steps entire ≡ behind_steps (drop l.step-index l.steps) (said_reach l.reach)
