use Rattle.std.proofs.Common.{◌∙◌, sym, ap}
use Rattle.checker_state.specs.State.{Live, Span, has_number, le}
use Rattle.checker_known.specs.Knowledge.{core, viewed}
use Rattle.checker_state.specs.State.{table_of}
use Rattle.checker_known.proofs.Tests.{and-rest}
use Rattle.checker_known.proofs.knowledge.Knowledge.gives_order.Goals as goal

pub returns-then-has_number-2 : goal.returns-then-has_number-2
returns-then-has_number-2 c =
    let known = viewed (core c.args.self.now) in
    let has = has_number (table_of c.args.table.now) (Live known) in
    c.is_at_most.ensures ∙ ap (λ (s : Span). le known s.first s.last) c.span-span.ensures
    ∙ and-rest (has c.args.order.other) _ (sym c.has_number-then-has_number.ensures ∙ c.if-has_number-2.true)
    ∙ and-rest (has c.args.order.root) _ (sym c.has_number.ensures ∙ c.if-has_number.true)
