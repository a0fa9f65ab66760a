use Rattle.std.proofs.Common.{◌∙◌}
use Rattle.cert_checker.proofs.Among.{among}
use Rattle.cert_checker.proofs.open_sites.is_among.Goals as goal

pub returns : goal.returns
returns c =
    c.is_ok.ensures.value ∙ among c.args.ids.now c.args.id c.binary_search.result c.requires c.binary_search.ensures.position
