use Rattle.std.proofs.Common.{sym, ◌∙◌}
use Rattle.interpreter_state.proofs.Members.{adds_nothing}
use Rattle.interpreter_state.proofs.sets.with_range.Goals as goal

pub returns-then-is_less_than : goal.returns-then-is_less_than
returns-then-is_less_than c = λ s. adds_nothing c.args.site c.args.first c.args.last c.args.set s (sym c.is_less_than.ensures ∙ c.if-is_less_than.true)
