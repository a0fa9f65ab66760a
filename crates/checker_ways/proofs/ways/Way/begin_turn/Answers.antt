use Rattle.std.proofs.Common.{ap, ap₂, ◌∙◌, Option}
use Rattle.domain.specs.Interval.{Interval}
use Rattle.checker_state.specs.Bounds.{Bound}
use Rattle.checker_state.specs.Conditions.{narrowed}
use Rattle.checker_state.specs.State.{with_defined}
use Rattle.checker_trail.specs.Trail.{seen}
use Rattle.checker_trail.proofs.Ways.{moves-as, moves-then}
use Rattle.checker_ways.specs.View.{said_way}
use Rattle.checker_loops.specs.Ways.{in_order, on_way, turn_begun}
use Rattle.checker_ways.proofs.ways.Way.begin_turn.Goals as goal

pub returns : goal.returns
returns c =
    let way = said_way c.args.self.now in
    let state = seen c.args.state.now in
    moves-as (turn_begun way)
    (moves-then (moves-then (moves-then c.narrow.ensures c.define.ensures) c.in_order.ensures) c.in_order-2.ensures)
    (ap₂ (λ (range : Interval) (own : Option Bound).
    in_order way.direction own way.last.form
    (in_order way.direction way.first.form own (with_defined way.control (narrowed way.control range state))))
    (c.values-range.ensures ∙ ap (on_way way.direction way.first.values way.last.values) c.range.ensures) c.own-own.ensures)
