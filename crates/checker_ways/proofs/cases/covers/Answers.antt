use Rattle.std.proofs.Common.{ap, ◌∙◌}
use Rattle.domain.specs.Numbers.{is_covered}
use Rattle.domain.proofs.Numbers.{is_covered-permuted}
use Rattle.checker_ways.proofs.cases.covers.Goals as goal

pub returns : goal.returns
returns c =
    let sorted = c.sort_unstable.new.self.items in
    c.is_covered.ensures.answer ∙ ap (is_covered c.args.range) c.deref.ensures.value
    ∙ is_covered-permuted c.args.range c.in_ok-sorted.sorted.items sorted c.sort_unstable.ensures.permutation
    ∙ ap (is_covered c.args.range) c.in_ok-sorted.ensures.items
