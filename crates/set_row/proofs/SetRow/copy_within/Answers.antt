use Rattle.std.proofs.Common.{◌∙◌, ◌+◌, ◌≤◌, ap, arith, length}
use Rattle.std.specs.List.{copy_within}
use Rattle.set_row.specs.Empty.{with_empty}
use Rattle.set_row.proofs.Written.{copied, length-with_empty, longer, reached}
use Rattle.set_row.proofs.SetRow.copy_within.Goals as goal

pub returns : goal.returns
returns c =
    let old = c.self.inside.written.items in
    let next = c.reach.new.row.items in
    let now = c.reach-2.new.row.items in
    let n = c.self.inside.count in
    let from = c.args.from in
    let to = c.args.to in
    let end = from + c.args.count in
    let behind = to + c.args.count in
    let few = c.self.invariant.0 in
    let all = ap length c.self.view_is in
    let total = length-with_empty old n few in
    let end_within : end ≤ n = omega (arith, c.requires.from_within, all, total) in
    let behind_within : behind ≤ n = omega (arith, c.requires.to_within, all, total) in
    let one = longer old end next c.reach.ensures.items in
    let two = longer next behind now c.reach-2.ensures.items in
    let next_few : length next ≤ n = omega (arith, one.most, few, end_within) in
    ap (λ l. with_empty l n) c.copy_within.ensures.items
    ∙ copied now n from end to (omega arith) (omega (arith, one.least, two.kept)) (omega (arith, two.least))
    ∙ ap (λ l. copy_within l from end to) (ap (λ l. with_empty l n) c.reach-2.ensures.items ∙ reached next n behind next_few behind_within
    ∙ ap (λ l. with_empty l n) c.reach.ensures.items ∙ reached old n end few end_within ∙ c.self.view_is)
