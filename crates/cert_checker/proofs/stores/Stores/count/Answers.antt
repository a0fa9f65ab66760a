use Rattle.std.proofs.Common.{sym, ◌∙◌}
use Rattle.cert_checker.proofs.StoresMade.{alike-count, paired-count}
use Rattle.cert_checker.proofs.stores.Stores.count.Goals as goal

pub returns-in-Alike : goal.returns-in-Alike
returns-in-Alike c = sym (alike-count c.args.self.now c.in-Alike.rows c.in-Alike.range c.in-Alike.is)

pub returns-in-Paired : goal.returns-in-Paired
returns-in-Paired c = c.min.ensures ∙ sym (paired-count c.args.self.now c.in-Paired.rows c.in-Paired.ranges c.in-Paired.is)
