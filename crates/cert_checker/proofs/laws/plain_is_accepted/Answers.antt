use Rattle.cert_checker.proofs.PlainStatements.{plain-accepted}
use Rattle.cert_checker.proofs.laws.plain_is_accepted.Goals as goal

pub returns : goal.returns
returns c = plain-accepted
