use Rattle.std.proofs.Common.{arith, refl}
use Rattle.checker_state.specs.View.{said_held}
use Rattle.checker_known.proofs.Listed.{lists-put}
use Rattle.checker_known.proofs.resting.Resting.list_at.Goals as goal

pub returns-in-Ok-clause-lists : goal.returns-in-Ok-clause-lists
returns-in-Ok-clause-lists c = λ whole.
    lists-put (said_held c.args.held.now) c.args.root c.args.self.now _ c.in-Some.list.now c.put.new.list whole
    (omega (arith, c.in-Some.ensures.variant.0 refl)) c.in-Some.ensures.value refl c.in-Ok.ensures
