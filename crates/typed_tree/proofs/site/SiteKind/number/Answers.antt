use Rattle.std.proofs.Common.{rules}
use Rattle.typed_tree.proofs.site.SiteKind.number.Goals as goal

pub returns : goal.returns
returns c = search rules
