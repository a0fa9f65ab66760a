use Rattle.std.proofs.Common.{rules}
use Rattle.interpreter_state.proofs.ordinals.positive_width.Goals as goal

pub returns-then-number-ge-LEAST_WIDTH : goal.returns-then-number-ge-LEAST_WIDTH
returns-then-number-ge-LEAST_WIDTH c = search rules
