use Rattle.std.proofs.Common.{refl}
use Rattle.typed_tree.proofs.site.SiteKind.name.Goals as goal

pub returns-in-Pred-clause-name : goal.returns-in-Pred-clause-name
returns-in-Pred-clause-name c = rw c.in-Pred.is refl
