use Rattle.scopes.proofs.Inserts.{lists_more}
use Rattle.scopes.proofs.regions.region_beside.Goals as goal

-- one name more is listed
pub loop-name-preserved : goal.loop-name-preserved
loop-name-preserved c =
    lists_more c.args.names.now c.loop-name.name-index c.args.parameters c.loop-name.region c.list.new.region c.loop-name-test.true
    c.name-item.result c.name-item.is c.in_ok-list.ensures c.loop-name.invariant
