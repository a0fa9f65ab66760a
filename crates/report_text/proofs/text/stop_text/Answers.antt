use Rattle.std.proofs.Common.{rules}
use Rattle.report_text.proofs.text.stop_text.Goals as goal

pub returns-in-More-clause-line : goal.returns-in-More-clause-line
returns-in-More-clause-line c = search rules

pub returns-in-More-clause-status : goal.returns-in-More-clause-status
returns-in-More-clause-status c = search rules
