use Rattle.std.proofs.Common.{rules, ◌≡◌, ◌∙◌, sym, ap, ap₂, ℕ, ◌-ℤ◌, Option}
use Rattle.std.proofs.lemmas.Int.{to_z-of_z}
use Rattle.checker_state.specs.Changes.{ordered, with_some}
use Rattle.checker_state.specs.Conditions.{with_order, with_order_of}
use Rattle.checker_state.specs.State.{Held}
use Rattle.checker_trail.specs.Trail.{seen}
use Rattle.checker_state.specs.View.{said_bound, said_ordered}
use Rattle.checker_trail.proofs.Ways.{moves-as}
use Rattle.checker_trail.proofs.state.State.put_variables.Goals as goal

pub returns : goal.returns
returns c =
    let state = seen c.args.self.now in
    let left = c.args.left in
    let right = c.args.right in
    let gap = c.args.gap in
    let is : said_ordered c.new.result ≡ ordered c.in-Some.root c.in-Some-root.other ((right.number -ℤ left.number) -ℤ gap) =
    search (rules, to_z-of_z) in
    moves-as (with_order (said_bound left) gap (said_bound right)) c.order.ensures
    (ap (λ (some : Option Held). with_some some state) is
    ∙ ap₂ (λ (one other : Option ℕ). with_order_of one left.number gap other right.number state) (sym c.in-Some.is) (sym c.in-Some-root.is))
