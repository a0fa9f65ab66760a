use Rattle.std.proofs.Common.{take}
use Rattle.checker_state.specs.Stores.{all_stored, stored}
use Rattle.checker_state.specs.View.{said_reach}
use Rattle.checker_trail.proofs.Elements.{stored-append}
use Rattle.checker_trail.proofs.Ways.{moves-more}
use Rattle.checker_trail.proofs.state.State.store_all.Goals as goal

pub loop-row-preserved : goal.loop-row-preserved
loop-row-preserved c =
    let reach = said_reach c.args.reach.now in
    let stores = c.args.stores.now in
    let i = c.loop-row.row-index in
    let one = c.loop-row-item.result in
    moves-more (all_stored reach) (stored reach one.0 one.1) stores i one c.loop-row-test.true c.loop-row-item.is
    c.loop-row.invariant c.store.ensures (stored-append reach (take i stores) one)
