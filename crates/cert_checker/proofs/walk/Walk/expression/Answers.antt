use Rattle.cert_checker.proofs.Steps.{lifted}
use Rattle.cert_checker.proofs.walk.Walk.expression.Goals as goal

pub returns-clause-goes : goal.returns-clause-goes
returns-clause-goes g c = lifted c.expression.ensures.goes
