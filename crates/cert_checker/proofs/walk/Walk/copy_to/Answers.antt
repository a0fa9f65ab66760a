use Rattle.checker_rows.specs.View.{numbers}
use Rattle.checker_state.specs.View.{said_reach}
use Rattle.cert_checker.proofs.Assigned.{paired-goes}
use Rattle.cert_checker.proofs.walk.Walk.copy_to.Goals as goal

pub returns : goal.returns
returns c =
    paired-goes c.args.copying.now.becomes c.args.copying.now.target (said_reach c.args.reach) c.args.self.now c.table.result.now
    (numbers c.accessed-rows.result) c.table.ensures c.accessed-rows.ensures c.args.ranges.now c.store_to.ensures
