use Rattle.std.proofs.Common.{rules, ◌∙◌}
use Rattle.std.proofs.lemmas.Iterator.{items_from_collect, YieldsList-from_map, YieldsList-from_slice}
use Rattle.std.proofs.lemmas.Iterator.Consumers.{YieldsList-at}
use Rattle.code_generator.specs.Tables.{in_plain_numbers}
use Rattle.report.proofs.compile.code_sites.Goals as goal

-- each open site goes through the closure
pub returns : goal.returns
returns c =
    let open_sites = c.args.verdict.now.open_sites.items in
    items_from_collect c.collect.result c.collect.ensures.ran
    (YieldsList-from_map _ in_plain_numbers
    (YieldsList-at c.map.ensures.source (YieldsList-from_slice open_sites (c.iter.ensures.rest ∙ c.deref.ensures.value)))
    c.map.ensures.closure (λ x r q k. search rules))
