use Rattle.cert_checker.proofs.Entered.{links_entries}
use Rattle.cert_checker.proofs.laws.entries_are_linked.Goals as goal

pub returns : goal.returns
returns c = links_entries
