use Rattle.std.proofs.Common.{◌∙◌}
use Rattle.checker_state.specs.View.{said_reach}
use Rattle.cert_checker.specs.StoresView.{said_stores}
use Rattle.cert_checker.proofs.Assigned.{stored-goes}
use Rattle.cert_checker.proofs.walk.Walk.store.Goals as goal

pub returns-in-Ok : goal.returns-in-Ok
returns-in-Ok c =
    stored-goes c.args.root c.deref.result.now (c.deref.ensures.value ∙ c.in-Ok.ensures) (said_reach c.args.reach)
    (said_stores c.args.stores.now) c.make.ensures
