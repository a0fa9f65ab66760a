use Rattle.std.proofs.Common.{rules}
use Rattle.token_cursor.proofs.fault.ParseFault.place.Goals as goal

pub returns-in-Memory : goal.returns-in-Memory
returns-in-Memory c = search rules
