use Rattle.checker_state.specs.View.{said_reach}
use Rattle.cert_checker.specs.StoresView.{said_stores}
use Rattle.cert_checker.proofs.Assigned.{store-goes}
use Rattle.cert_checker.proofs.walk.Walk.store_to.Goals as goal

pub returns : goal.returns
returns c = store-goes c.args.place c.args.root (said_reach c.args.reach) (said_stores c.args.stores.now) c.change.ensures c.store.ensures
