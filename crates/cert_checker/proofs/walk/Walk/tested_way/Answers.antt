use Rattle.checker_ways.specs.View.{said_way}
use Rattle.cert_checker.proofs.WaysTested.{way-tested}
use Rattle.cert_checker.proofs.walk.Walk.tested_way.Goals as goal

pub returns : goal.returns
returns c =
    way-tested (said_way c.args.way.now) (said_way c.with_values.result) c.met-first.result c.met-last.result c.tested_end-first.result
    c.tested_end-last.result c.met-first.ensures c.met-last.ensures c.tested_end-first.ensures c.tested_end-last.ensures c.with_values.ensures
