use Rattle.std.proofs.Common.{rules}
use Rattle.report_text.proofs.text.fault_text.Goals as goal

pub returns-in-At-clause-status : goal.returns-in-At-clause-status
returns-in-At-clause-status c = search rules
