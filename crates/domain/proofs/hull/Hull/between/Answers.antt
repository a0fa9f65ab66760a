use Rattle.std.proofs.Common.{◌∙◌}
use Rattle.domain.specs.Hulls.{hull_between-is_hull, hull_between-made, hull_between-has_set}
use Rattle.domain.specs.Ranges.{as_is}
use Rattle.domain.proofs.hull.Hull.between.Goals as goal

pub returns-clause-ends : goal.returns-clause-ends
returns-clause-ends c =
    hull_between-made c.args.first.now c.args.last.now c.at_least-from_first.result c.at_most.result _ _
    c.at_least-from_first.ensures.ends c.at_most.ensures.ends
    (as_is c.first.result c.first.ensures.bounds ∙ c.first.ensures.value) (as_is c.last.result c.last.ensures.bounds ∙ c.last.ensures.value)

pub invariant_of-result : goal.invariant_of-result
invariant_of-result c = rw (returns-clause-ends c) (hull_between-is_hull c.args.first.now c.args.last.now)

pub returns-clause-sets : goal.returns-clause-sets
returns-clause-sets c = rw (returns-clause-ends c) (hull_between-has_set c.args.first.now c.args.last.now)
