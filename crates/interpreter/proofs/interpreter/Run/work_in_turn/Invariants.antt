use Rattle.std.specs.Prelude.{◌≡◌, Ok, None}
use Rattle.interpreter.specs.Pending.{Advances}
use Rattle.interpreter.specs.Size.{pending_size}
use Rattle.interpreter.proofs.interpreter.Run.work_in_turn.Given as goal

-- the run went on, and used no turn
abbrev pub invariant-loop-ending : goal.invariant-loop-ending
invariant-loop-ending l = record {
  does : Advances l.initial.self (Ok None) l.self;
  turns : l.self.turns ≡ l.initial.self.turns;
}

abbrev pub decreases-loop-ending : goal.decreases-loop-ending
decreases-loop-ending l = pending_size l.self
