use Rattle.std.proofs.Common.{arith, rules, ◌++◌, take, ◌∙◌, ap, sym}
use Rattle.std.proofs.Math.ListN.{take-append-drop}
use Rattle.report_text.proofs.MessagesLemmas.{Left-all, Left-part, part_left, none_failed}
use Rattle.report_text.proofs.messages.put.Goals as goal

pub loop-rest-init : goal.loop-rest-init
loop-rest-init g c = (search rules, Left-all _ _)

pub loop-rest-preserved : goal.loop-rest-preserved
loop-rest-preserved g c =
    let kept = c.loop-rest.invariant in
    let rest = c.loop-rest.rest.now in
    let count = c.in-Ok.count in
    let none = none_failed rest count c.if-count-gt0.true in (
      omega (arith, none, c.in-Ok.ensures.counted, kept.0),
      Left-part _ _ _ rest (take count rest) _ _ kept.1 c.in-Ok.ensures.bytes
          (sym (take-append-drop count rest) ∙ ap (λ xs. take count rest ++ xs) (part_left rest count)),
    )
