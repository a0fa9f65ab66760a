use Rattle.std.proofs.Common.{◌∙◌, ap}
use Rattle.checker_calls.specs.Overlaps.{are_separate}
use Rattle.checker_calls.proofs.Bound.{bound-end}
use Rattle.checker_calls.proofs.overlaps.are_separate.Goals as goal

pub returns : goal.returns
returns c =
    ap (are_separate c.args.pairs.now c.args.caller c.args.around.now)
    (bound-end c.args.bindings.roots.now c.args.bindings.actuals.now c.loop-i.i c.min-i-end.result c.min-i-end.ensures c.loop-i-test.false)
    ∙ c.loop-i.invariant
