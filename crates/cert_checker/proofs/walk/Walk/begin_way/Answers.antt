use Rattle.checker_ways.specs.View.{said_way}
use Rattle.cert_checker.proofs.WaysTested.{way-begun}
use Rattle.cert_checker.proofs.walk.Walk.begin_way.Goals as goal

pub returns : goal.returns
returns c = way-begun (said_way c.args.way.now) c.enter_way.ensures c.assigned.ensures
