use Rattle.checker_rows.specs.View.{numbers}
use Rattle.checker_state.specs.View.{said_reach}
use Rattle.cert_checker.proofs.Assigned.{alike-goes}
use Rattle.cert_checker.proofs.walk.Walk.assign_component.Goals as goal

pub returns : goal.returns
returns c =
    alike-goes c.args.place c.args.target.now (said_reach c.args.reach) c.args.self.now c.table.result.now (numbers c.accessed-rows.result) c.table.ensures
    c.accessed-rows.ensures c.args.range c.store_to.ensures
