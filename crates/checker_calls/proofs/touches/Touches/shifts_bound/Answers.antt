use Rattle.checker_state.specs.View.{said_bound}
use Rattle.checker_calls.proofs.HeldBehind.{none-rests}
use Rattle.checker_calls.proofs.touches.Touches.shifts_bound.Goals as goal

pub returns-in-None : goal.returns-in-None
returns-in-None c = none-rests (said_bound c.args.bound) c.args.self.now.touched c.in-None.is
