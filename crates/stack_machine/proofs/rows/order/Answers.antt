use Rattle.std.proofs.Common.{rules, ◌≡◌, ◌∙◌, sym}
use Rattle.std.proofs.lemmas.Slice.Zip.{zip_end}
use Rattle.stack_machine.proofs.Characters.{order_end}
use Rattle.stack_machine.proofs.rows.order.Goals as goal

pub returns : goal.returns
returns c =
    let left = c.args.left.now in
    let right = c.args.right.now in
    let first : c.into_iter-a-iterator.result.a.rest.now ≡ left = search rules in
    let second : c.into_iter-a-iterator.result.b.rest.now ≡ right = search rules in
    let end = zip_end left right c.loop-a.yielded c.into_iter-a-iterator.result c.loop-a.a-iterator c.next.new.self c.next.result first second
    c.loop-a.yielded_by c.in-None.is c.next.ensures.steps in
    sym (order_end left right _ end) ∙ c.loop-a.invariant.2
