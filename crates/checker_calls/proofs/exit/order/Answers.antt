use Rattle.std.proofs.Common.{rules, ◌≡◌, ◌∙◌, ◌-ℤ◌, ap, ℤ, Option, of_z, to_z, w64}
use Rattle.checker_state.specs.State.{Held}
use Rattle.checker_state.specs.Changes.{with_some}
use Rattle.checker_state.specs.View.{said_bound, said_form}
use Rattle.checker_trail.specs.Trail.{seen}
use Rattle.checker_trail.proofs.Ways.{moves-as}
use Rattle.checker_calls.specs.Exit.{bounds_ordered}
use Rattle.checker_calls.proofs.GoneBehind.{ordered-bounds}
use Rattle.checker_calls.proofs.exit.order.Goals as goal

pub returns-in-Some-Some-2 : goal.returns-in-Some-Some-2
returns-in-Some-Some-2 c =
    let state = seen c.args.state.now in
    let first = c.in-Some-Some.first in
    let last = c.in-Some-Some.last in
    let number : ℤ = to_z w64 (of_z w64 (to_z w64 (of_z w64 c.from.result) -ℤ to_z w64 (of_z w64 c.from-in-Some-Some-2.result))) in
    let number_is : number ≡ last.number -ℤ first.number = search rules in
    moves-as (bounds_ordered (said_form c.args.first) (said_form c.args.last)) c.order.ensures
    (ap (λ (more : Option Held). with_some more state) c.new.ensures
    ∙ ordered-bounds (said_bound first) (said_bound last) (said_form c.args.first) (said_form c.args.last) c.in-Some-Some-2.root
    c.in-Some-Some-2.other number state (ap said_form c.in-Some-Some.is-0) (ap said_form c.in-Some-Some.is-1)
    c.in-Some-Some-2.is-0 c.in-Some-Some-2.is-1 number_is)
