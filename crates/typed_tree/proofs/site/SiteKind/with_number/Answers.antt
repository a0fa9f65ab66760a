use Rattle.std.proofs.Common.{rules, tests}
use Rattle.typed_tree.proofs.site.SiteKind.with_number.Goals as goal

pub returns-in_default : goal.returns-in_default
returns-in_default c = search (tests, rules)
