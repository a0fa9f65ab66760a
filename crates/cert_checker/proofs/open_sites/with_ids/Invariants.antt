use Rattle.std.proofs.Common.{◌≡◌, take}
use Rattle.cert_checker.specs.Promise.{open_in}
use Rattle.cert_checker.proofs.open_sites.with_ids.Given as goal

abbrev pub invariant-loop-site : goal.invariant-loop-site
invariant-loop-site l = l.found.items ≡ open_in l.ids (take l.site-index l.sites)
