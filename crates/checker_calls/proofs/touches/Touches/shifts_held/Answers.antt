use Rattle.std.specs.List.{list_any}
use Rattle.checker_state.specs.Changes.{span_rests_on}
use Rattle.checker_state.specs.View.{inner_spans, said_held, said_span}
use Rattle.checker_calls.proofs.HeldBehind.{either-first, either-second, ends-rest}
use Rattle.checker_calls.proofs.touches.Touches.shifts_held.Goals as goal

pub returns-then-shifts_span : goal.returns-then-shifts_span
returns-then-shifts_span c =
    let roots = c.args.self.now.touched in
    let span = said_span c.ends-inner.result.0 in
    let inner = inner_spans c.ends-inner.result.1 in
    ends-rest (said_held c.args.held.now) span inner roots c.shifts_span.result c.ends-inner.ensures
    (either-first (λ root. span_rests_on root span) (λ root. list_any (span_rests_on root) inner) roots
    c.shifts_span.result c.shifts_span.ensures c.if-shifts_span.true)

pub returns-else-shifts_span : goal.returns-else-shifts_span
returns-else-shifts_span c =
    let roots = c.args.self.now.touched in
    let span = said_span c.ends-inner.result.0 in
    let inner = inner_spans c.ends-inner.result.1 in
    ends-rest (said_held c.args.held.now) span inner roots c.shifts_inner.result c.ends-inner.ensures
    (either-second (λ root. span_rests_on root span) (λ root. list_any (span_rests_on root) inner) roots
    c.shifts_span.result c.shifts_inner.result c.shifts_span.ensures c.if-shifts_span.false c.shifts_inner.ensures)
