use Rattle.meaning.proofs.Used.{statements_use_turns}
use Rattle.meaning.proofs.laws.statements_use_turns_exactly.Goals as goal

pub returns : goal.returns
returns c = statements_use_turns
