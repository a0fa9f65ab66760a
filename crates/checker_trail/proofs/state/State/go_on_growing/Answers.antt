use Rattle.std.proofs.Common.{◌∙◌, ap, ap₂, sym, Option}
use Rattle.domain.specs.Interval.{Interval, common}
use Rattle.checker_state.specs.declared.growing.Growing.{Growing}
use Rattle.checker_state.specs.Growths.{behind_step, with_growing}
use Rattle.checker_state.specs.State.{unless_empty}
use Rattle.checker_trail.specs.Trail.{seen}
use Rattle.checker_trail.proofs.Ways.{moves-as, moves-then}
use Rattle.checker_trail.proofs.state.State.go_on_growing.Goals as goal

pub returns : goal.returns
returns c =
    let root = c.args.root in
    let growing = c.in-Some.growing in
    let state = seen c.args.self.now in
    moves-as (behind_step root c.args.growth) (moves-then c.grow.ensures c.unless_empty.ensures)
    (ap (λ (range : Interval). unless_empty range (with_growing root growing state))
    (c.meet-left.ensures.answer ∙ ap₂ common c.range.ensures c.reached.ensures)
    ∙ ap (λ (growth : Option Growing). behind_step root growth state) (sym c.in-Some.is))
