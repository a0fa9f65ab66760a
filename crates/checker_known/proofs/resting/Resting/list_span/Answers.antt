use Rattle.checker_state.specs.Changes.{bound_rests_on}
use Rattle.checker_state.specs.View.{said_bound, said_held}
use Rattle.checker_known.proofs.Listed.{lists-both}
use Rattle.checker_known.proofs.resting.Resting.list_span.Goals as goal

pub returns-clause-lists : goal.returns-clause-lists
returns-clause-lists c =
    lists-both (λ root. bound_rests_on root (said_bound c.args.span.first)) (λ root. bound_rests_on root (said_bound c.args.span.last))
    (said_held c.args.held.now) _ _ _ c.list_bound.ensures.lists c.list_bound-2.ensures.lists
