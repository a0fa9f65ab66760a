use Rattle.std.proofs.Common.{◌∙◌, sym, ap, true, false, append-nil, get_or}
use Rattle.plain_certificate.proofs.Items.{is-less, is-no-less, pairs-more}
use Rattle.plain_certificate.proofs.pairs.add_pairs.Goals.{then-first-second+in_ok-push, else-first-second}
use Rattle.plain_certificate.proofs.pairs.add_pairs.Goals as goal

pub loop-second-preserved : goal.loop-second-preserved
loop-second-preserved c =
    let before = c.args.pairs.now.items in
    let made = c.loop-second.pairs.items in
    let more = c.if-first-second.pairs.items in
    let others = c.args.others.now in
    let i = c.loop-second.second-index in
    elim c.if-first-second.branch [
      | then-first-second+in_ok-push w ↦ pairs-more before made more c.args.first others i 0 true c.loop-second-test.true c.loop-second.invariant
          (is-less c.args.first (get_or others i 0) w.if-first-second.true) (ap (λ list. list.items) w.pairs-is ∙ w.in_ok-push.ensures.items)
      | else-first-second w ↦ pairs-more before made more c.args.first others i 0 false c.loop-second-test.true c.loop-second.invariant
          (is-no-less c.args.first (get_or others i 0) w.if-first-second.false) (ap (λ list. list.items) w.pairs-is ∙ sym (append-nil made))
    ]
