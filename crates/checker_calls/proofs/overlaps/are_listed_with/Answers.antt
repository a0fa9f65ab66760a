use Rattle.std.proofs.Common.{◌∙◌, ap}
use Rattle.std.specs.List.{list_all}
use Rattle.typed_tree.specs.Accesses.{origin_of}
use Rattle.checker_calls.specs.Overlaps.{is_listed_with}
use Rattle.checker_calls.proofs.Bound.{bound-end}
use Rattle.checker_calls.proofs.overlaps.are_listed_with.Goals as goal

pub returns : goal.returns
returns c =
    ap (list_all (is_listed_with c.args.pairs.now.pairs c.args.formal (origin_of c.args.access.now) c.args.access.now.selectors.items))
    (bound-end c.args.others.roots.now c.args.others.actuals.now c.loop-i.i c.min-i-end.result c.min-i-end.ensures c.loop-i-test.false)
    ∙ c.loop-i.invariant
