use Rattle.std.proofs.Common.{◌≡◌, ◌∙◌, ap}
use Rattle.std.proofs.lemmas.Result.{IfOk-weaker}
use Rattle.cert_checker.specs.Promise.{open_in}
use Rattle.cert_checker.proofs.Among.{open_in-permuted}
use Rattle.cert_checker.proofs.open_sites.open_sites.Goals as goal

pub returns : goal.returns
returns c =
    let sites = c.args.sites.now in
    IfOk-weaker c.with_ids.result (λ found. found.items ≡ open_in c.deref.result.now sites) _
    (λ found is.
    is ∙ ap (λ ids. open_in ids sites) c.deref.ensures.value
    ∙ open_in-permuted c.args.ids.items c.sort_unstable.new.self.items sites c.sort_unstable.ensures.permutation)
    c.with_ids.ensures
