use Rattle.std.proofs.Common.{rules}
use Rattle.cert_checker.proofs.visits.Visits.new.Goals as goal

pub returns : goal.returns
returns c = search rules
