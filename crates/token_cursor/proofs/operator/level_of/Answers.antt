use Rattle.std.proofs.Common.{rules}
use Rattle.token_cursor.proofs.operator.level_of.Goals as goal

pub returns-in-Times : goal.returns-in-Times
returns-in-Times c = search rules
