use Rattle.cert_checker.proofs.Steps.{lifted}
use Rattle.cert_checker.proofs.walk.Walk.whole_value.Goals as goal

pub returns-clause-goes : goal.returns-clause-goes
returns-clause-goes g c = lifted c.whole_value.ensures.goes
