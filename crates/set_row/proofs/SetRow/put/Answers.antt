use Rattle.std.proofs.Common.{◌∙◌, ◌+◌, ◌<◌, ◌≤◌, ap, arith, length}
use Rattle.std.specs.Prelude.{slice_set}
use Rattle.set_row.specs.Empty.{with_empty}
use Rattle.set_row.proofs.Written.{length-with_empty, longer, put_at, reached}
use Rattle.set_row.proofs.SetRow.put.Goals as goal

pub returns : goal.returns
returns c =
    let old = c.self.inside.written.items in
    let now = c.reach.new.row.items in
    let n = c.self.inside.count in
    let place = c.args.place in
    let few = c.self.invariant.0 in
    let all = length-with_empty old n few in
    let end : place + 1 ≤ n = omega (arith, c.requires, ap length c.self.view_is, all) in
    let within : place < length now = omega (arith, (longer old (place + 1) now c.reach.ensures.items).least) in
    put_at now n place c.args.members within
    ∙ ap (λ l. slice_set l place c.args.members) (ap (λ l. with_empty l n) c.reach.ensures.items ∙ reached old n (place + 1) few end ∙ c.self.view_is)
