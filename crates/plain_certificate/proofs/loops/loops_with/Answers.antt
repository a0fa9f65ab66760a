use Rattle.std.proofs.Common.{◌∙◌, ap, get_or, map}
use Rattle.std.proofs.lemmas.List.Elements.{same_from_all_zip}
use Rattle.plain_certificate.proofs.Items.{map-more}
use Rattle.certificate.specs.Contents.{loop_of, said_fact}
use Rattle.plain_certificate.specs.Widest.{loop_with}
use Rattle.plain_certificate.proofs.loops.loops_with.Goals as goal

pub loop-number-preserved : goal.loop-number-preserved
loop-number-preserved c =
    let number = get_or c.args.numbers.now c.loop-number.number-index 0 in
    let roots = c.args.roots.now.items in
    let same = same_from_all_zip _ roots c.in_ok-clone.field-0.items c.in_ok-clone.ensures.cases.0 (λ x y h. h) in
    map-more loop_of (loop_with roots) c.loop-number.loops.items c.push.new.self.items _ c.args.numbers.now c.loop-number.number-index 0
    c.loop-number-test.true c.loop-number.invariant c.in_ok-push.ensures.items
    (ap (λ changes. record { number = number; changes = changes; facts = map said_fact c.new.result.items }) same
    ∙ ap (λ facts. record { number = number; changes = roots; facts = map said_fact facts }) c.new.ensures.items)
