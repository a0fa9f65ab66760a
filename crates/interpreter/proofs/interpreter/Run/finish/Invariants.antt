use Rattle.std.specs.Prelude.{Ok, None}
use Rattle.interpreter.specs.Pending.{Advances}
use Rattle.interpreter.proofs.interpreter.Run.finish.Given as goal

-- the run went on
abbrev pub invariant-loop-ending : goal.invariant-loop-ending
invariant-loop-ending l = Advances l.initial.self (Ok None) l.self

abbrev pub decreases-loop-ending : goal.decreases-loop-ending
decreases-loop-ending l = l.self.turns
