use Rattle.std.proofs.Common.{◌∙◌, ap}
use Rattle.std.proofs.lemmas.List.{take_all}
use Rattle.cert_checker.specs.Promise.{open_in}
use Rattle.cert_checker.proofs.Among.{open_in-taken, open_in-left}
use Rattle.cert_checker.proofs.open_sites.with_ids.Goals.{then-is_among+in_ok-push, else-is_among}
use Rattle.cert_checker.proofs.open_sites.with_ids.Goals as goal

pub loop-site-init : goal.loop-site-init
loop-site-init c = c.new-found.ensures.items

pub loop-site-preserved : goal.loop-site-preserved
loop-site-preserved c =
    let ids = c.args.ids.now in
    let sites = c.args.sites.now in
    let i = c.loop-site.site-index in
    let before = c.loop-site.found.items in
    elim c.if-is_among.branch [
      | then-is_among+in_ok-push w ↦ open_in-taken ids sites i _ before c.if-is_among.found.items c.is_among.result c.loop-site-test.true
          c.loop-site.invariant c.is_among.ensures w.if-is_among.true
          (ap (λ list. list.items) w.found-is ∙ w.in_ok-push.ensures.items)
      | else-is_among w ↦ open_in-left ids sites i _ before c.if-is_among.found.items c.is_among.result c.loop-site-test.true c.loop-site.invariant
          c.is_among.ensures w.if-is_among.false
          (ap (λ list. list.items) w.found-is)
    ]

pub returns : goal.returns
returns c = c.loop-site.invariant ∙ ap (open_in c.args.ids.now) (take_all c.loop-site.site-index c.args.sites.now c.loop-site-test.false)
