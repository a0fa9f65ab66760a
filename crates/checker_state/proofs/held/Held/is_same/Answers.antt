use Rattle.std.proofs.Common.{◌∙◌, sym}
use Rattle.checker_state.specs.View.{said_held}
use Rattle.checker_state.proofs.HeldOrders.{held-same}
use Rattle.checker_state.proofs.held.Held.is_same.Goals as goal

pub returns-in-Equal : goal.returns-in-Equal
returns-in-Equal c = held-same (said_held c.args.self.now) (said_held c.args.other.now) (sym c.compare.ensures ∙ c.in-Equal.is)
