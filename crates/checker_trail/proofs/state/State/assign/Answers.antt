use Rattle.std.proofs.Common.{ap, Option}
use Rattle.checker_state.specs.declared.growing.Growing.{Growing}
use Rattle.checker_state.specs.Changes.{assigned, with_change, with_equal}
use Rattle.checker_state.specs.Growths.{behind_step}
use Rattle.checker_state.specs.State.{with_value}
use Rattle.checker_state.specs.View.{said_form}
use Rattle.checker_trail.specs.Trail.{seen}
use Rattle.checker_trail.proofs.Ways.{moves-as, moves-then}
use Rattle.checker_trail.proofs.state.State.assign.Goals as goal

pub returns : goal.returns
returns c =
    let root = c.args.root in
    let range = c.args.range in
    let form = said_form c.args.form in
    moves-as (assigned root range form c.args.step)
    (moves-then (moves-then c.change.ensures (moves-then c.set_range.ensures (moves-then c.define.ensures c.equate.ensures))) c.go_on_growing.ensures)
    (ap (λ (growth : Option Growing).
    behind_step root growth (with_equal root form (with_value root range (with_change root form (seen c.args.self.now)))))
    c.stepped_growth-growth.ensures)
