use Rattle.checker_state.specs.View.{said_held}
use Rattle.checker_known.proofs.Listed.{lists-bound, lists-number}
use Rattle.checker_known.proofs.resting.Resting.list_bound.Goals as goal

pub returns-in-Some-clause-lists : goal.returns-in-Some-clause-lists
returns-in-Some-clause-lists c =
    lists-bound c.args.bound.root c.in-Some.root (said_held c.args.held.now) c.args.self.now c.list_at.new.self c.in-Some.is c.list_at.ensures.lists

pub returns-in_default-clause-lists : goal.returns-in_default-clause-lists
returns-in_default-clause-lists c = lists-number c.args.bound.root (said_held c.args.held.now) c.args.self.now c.in_default.is
