use Rattle.checker_state.specs.Changes.{with_change}
use Rattle.checker_state.specs.View.{said_form}
use Rattle.checker_trail.specs.Trail.{seen}
use Rattle.checker_trail.proofs.Outside.{changed-as}
use Rattle.checker_trail.proofs.Ways.{moves-as, moves-then}
use Rattle.checker_trail.proofs.state.State.change.Goals as goal

pub returns : goal.returns
returns c =
    moves-as (with_change c.args.root (said_form c.args.form)) (moves-then c.set_growth.ensures c.rebind.ensures)
    (changed-as c.args.root c.args.form (seen c.args.self.now))
