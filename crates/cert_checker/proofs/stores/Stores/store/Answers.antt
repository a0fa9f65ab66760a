use Rattle.std.proofs.Common.{arith, ◌<◌, length, take}
use Rattle.checker_state.specs.Stores.{all_stored, stored}
use Rattle.checker_state.specs.View.{said_reach}
use Rattle.checker_trail.proofs.Elements.{stored-append}
use Rattle.checker_trail.proofs.Ways.{moves-more}
use Rattle.cert_checker.specs.StoresView.{said_stores}
use Rattle.cert_checker.proofs.StoresMade.{there}
use Rattle.cert_checker.proofs.stores.Stores.store.Goals as goal

pub loop-place-preserved : goal.loop-place-preserved
loop-place-preserved c =
    let reach = said_reach c.args.reach.now in
    let stores = said_stores c.args.self.now in
    let place = c.loop-place.place in
    let one = c.at-row.result in
    let inside : place < length stores = omega arith in
    moves-more (all_stored reach) (stored reach one.0 one.1) stores place one inside (there stores place one c.at-row.ensures)
    c.loop-place.invariant c.store.ensures (stored-append reach (take place stores) one)
