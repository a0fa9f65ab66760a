use Rattle.std.proofs.Common.{ap, ap₂, ◌∙◌, Option, None}
use Rattle.domain.specs.Interval.{Interval}
use Rattle.checker_state.specs.Bounds.{Bound}
use Rattle.checker_state.specs.Changes.{assigned}
use Rattle.checker_state.specs.State.{unless_empty}
use Rattle.checker_trail.specs.Trail.{seen}
use Rattle.checker_trail.proofs.Ways.{moves-as, moves-then}
use Rattle.checker_ways.specs.View.{said_way}
use Rattle.checker_loops.specs.Ways.{in_order, moved_on, own, turn_ended, values_behind}
use Rattle.checker_ways.proofs.ways.Way.end_turn.Goals as goal

pub returns : goal.returns
returns c =
    let way = said_way c.args.self.now in
    let state = seen c.args.state.now in
    moves-as (turn_ended way) (moves-then (moves-then c.assign.ensures c.unless_empty.ensures) c.in_order.ensures)
    (ap₂ (λ (form : Option Bound) (own : Option Bound).
    in_order way.direction own way.last.form
    (unless_empty c.values_behind-range.result (assigned way.control c.values_behind-range.result form None state))) c.next.ensures c.own.ensures
    ∙ ap (λ (range : Interval). in_order way.direction (own way) way.last.form (moved_on way range state))
    (c.values_behind-range.ensures ∙ ap (values_behind way.direction way.last.values) c.range.ensures))
