use Rattle.std.proofs.Common.{rules}
use Rattle.domain.specs.Ranges.{joined-extent}
use Rattle.domain.proofs.interval.Interval.extent.Goals as goal

pub returns : goal.returns
returns c =
    joined-extent c.span.result c.span-2.result c.join.result c.args.p c.args.q c.args.r c.args.s
    (search rules) (search rules) c.join.ensures.answer
