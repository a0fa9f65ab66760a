use Rattle.std.proofs.Common.{◌∙◌}
use Rattle.checker_loops.proofs.Halves.{found-among}
use Rattle.checker_loops.proofs.listed.Roots.has.Goals as goal

pub returns : goal.returns
returns c =
    let roots = c.args.self.now in
    c.is_ok.ensures.value
    ∙ found-among roots.listed.now roots.sorted.now c.args.root c.binary_search.result roots.same roots.ascends c.binary_search.ensures.position
