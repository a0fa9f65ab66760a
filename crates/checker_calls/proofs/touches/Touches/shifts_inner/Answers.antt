use Rattle.std.proofs.Common.{◌∙◌, sym, ap, Option}
use Rattle.std.specs.List.{list_any}
use Rattle.checker_state.specs.Changes.{span_rests_on}
use Rattle.checker_state.specs.View.{inner_spans, said_span}
use Rattle.checker_state.specs.declared.held.Span.{Span}
use Rattle.checker_calls.proofs.HeldBehind.{any-alone, any-none}
use Rattle.checker_calls.proofs.touches.Touches.shifts_inner.Goals as goal

pub returns-in-None : goal.returns-in-None
returns-in-None c =
    let roots = c.args.self.now.touched in
    sym (any-none roots)
    ∙ ap (λ (span : Option Span). list_any (λ root. list_any (span_rests_on root) (inner_spans span)) roots) (sym c.in-None.is)

pub returns-in-Some : goal.returns-in-Some
returns-in-Some c =
    let roots = c.args.self.now.touched in
    c.shifts_span.ensures ∙ any-alone (λ root. span_rests_on root (said_span c.in-Some.span)) roots
    ∙ ap (λ (span : Option Span). list_any (λ root. list_any (span_rests_on root) (inner_spans span)) roots) (sym c.in-Some.is)
