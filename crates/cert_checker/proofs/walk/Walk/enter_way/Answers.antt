use Rattle.cert_checker.proofs.Steps.{moved}
use Rattle.cert_checker.proofs.walk.Walk.enter_way.Goals as goal

pub returns : goal.returns
returns c = moved c.enter.ensures
