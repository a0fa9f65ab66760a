use Rattle.checker_state.specs.Changes.{bound_rests_on}
use Rattle.checker_state.specs.View.{said_bound}
use Rattle.checker_calls.proofs.HeldBehind.{either-first, either-second}
use Rattle.checker_calls.proofs.touches.Touches.shifts_span.Goals as goal

pub returns-then-shifts_bound : goal.returns-then-shifts_bound
returns-then-shifts_bound c =
    either-first (λ root. bound_rests_on root (said_bound c.args.span.first)) (λ root. bound_rests_on root (said_bound c.args.span.last))
    c.args.self.now.touched c.shifts_bound.result c.shifts_bound.ensures c.if-shifts_bound.true

pub returns-else-shifts_bound : goal.returns-else-shifts_bound
returns-else-shifts_bound c =
    either-second (λ root. bound_rests_on root (said_bound c.args.span.first)) (λ root. bound_rests_on root (said_bound c.args.span.last))
    c.args.self.now.touched c.shifts_bound.result c.shifts_bound-else-shifts_bound.result c.shifts_bound.ensures c.if-shifts_bound.false
    c.shifts_bound-else-shifts_bound.ensures
