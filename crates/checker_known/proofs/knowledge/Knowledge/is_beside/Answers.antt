use Rattle.std.proofs.Common.{◌∙◌, ap, ap₂, pos}
use Rattle.checker_state.specs.Bounds.{raised_bound}
use Rattle.checker_state.specs.State.{le}
use Rattle.checker_known.specs.Knowledge.{core, viewed}
use Rattle.checker_known.proofs.knowledge.Knowledge.is_beside.Goals as goal

pub returns : goal.returns
returns c = c.le.ensures ∙ ap₂ (le (viewed (core c.args.self.now))) c.of.ensures.is (c.moved.ensures.is ∙ ap (raised_bound (pos 1)) c.of-2.ensures.is)
