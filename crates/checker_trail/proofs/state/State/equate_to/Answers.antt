use Rattle.std.proofs.Common.{rules, ◌≡◌, neg_ℤ}
use Rattle.std.proofs.lemmas.Int.{to_z-of_z}
use Rattle.checker_state.specs.Changes.{ordered}
use Rattle.checker_state.specs.View.{said_ordered}
use Rattle.checker_trail.proofs.Steps.{equal-moves}
use Rattle.checker_trail.proofs.state.State.equate_to.Goals as goal

pub returns : goal.returns
returns c =
    let root = c.args.root in
    let other = c.in-Some.other in
    let n = c.args.form.number in
    let first : said_ordered c.new.result ≡ ordered root other n = search (rules, to_z-of_z) in
    let second : said_ordered c.new-2.result ≡ ordered other root (neg_ℤ n) = search (rules, to_z-of_z) in
    equal-moves root other n c.args.form.root _ _ c.in-Some.is c.if-root-other.false first second c.order.ensures c.order-2.ensures
