use Rattle.std.proofs.Common.{◌∙◌, ap₂}
use Rattle.checker_state.specs.State.{le}
use Rattle.checker_known.specs.Knowledge.{core, viewed}
use Rattle.checker_known.proofs.knowledge.Knowledge.is_at_most.Goals as goal

pub returns : goal.returns
returns c = c.le.ensures ∙ ap₂ (le (viewed (core c.args.self.now))) c.of.ensures.is c.of-2.ensures.is
