use Rattle.std.proofs.Common.{◌∙◌}
use Rattle.interpreter_state.proofs.Members.{of_numbers}
use Rattle.interpreter_state.proofs.sets.operated_value.Goals as goal

pub returns-in-Plus : goal.returns-in-Plus
returns-in-Plus c = λ s. of_numbers c.args.operation c.args.left c.args.right s c.in-Plus.is ∙ c.of_numbers.ensures s
