use Rattle.std.proofs.Common.{rules}
use Rattle.report_text.proofs.text.open_site.Goals as goal

pub returns : goal.returns
returns c = search rules
