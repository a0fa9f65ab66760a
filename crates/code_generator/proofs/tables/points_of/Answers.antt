use Rattle.std.proofs.Common.{rules}
use Rattle.std.proofs.lemmas.Iterator.{items_from_collect, YieldsList-from_map, YieldsList-from_slice}
use Rattle.std.proofs.lemmas.Iterator.Consumers.{YieldsList-at}
use Rattle.code_generator.specs.Tables.{point_in_plain_numbers}
use Rattle.code_generator.proofs.tables.points_of.Goals as goal

-- each point goes through the closure
pub returns : goal.returns
returns c =
    items_from_collect c.collect.result c.collect.ensures.ran
    (YieldsList-from_map _ point_in_plain_numbers (YieldsList-at c.map-plain.ensures.source (YieldsList-from_slice c.args.points.now c.iter.ensures.rest))
    c.map-plain.ensures.closure (λ x r q k. search rules))
