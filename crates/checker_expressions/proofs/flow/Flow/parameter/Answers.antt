use Rattle.std.proofs.Common.{refl}
use Rattle.typed_tree.specs.Entries.{entries_of_width, entries_of_written}
use Rattle.checker_expressions.specs.Walk.{width_walk, written_walk}
use Rattle.checker_expressions.proofs.Counted.{counts-then}
use Rattle.checker_expressions.proofs.Flows.{goes-then}
use Rattle.checker_expressions.proofs.flow.Flow.parameter.Goals as goal

pub returns-clause-goes : goal.returns-clause-goes
returns-clause-goes g c =
    let parameter = c.args.parameter.now in
    goes-then (written_walk parameter.value) (λ _. width_walk parameter.width) c.written.ensures.goes c.width.ensures.goes

pub returns-clause-counts : goal.returns-clause-counts
returns-clause-counts g c =
    let parameter = c.args.parameter.now in
    counts-then g.C.Count.counted c.args.visits.now (entries_of_written parameter.value) (entries_of_width parameter.width) refl c.written.ensures.counts
    c.width.ensures.counts
