use Rattle.reading.proofs.Three.{tokens_have_one_tree}
use Rattle.reading.proofs.laws.tokens_have_one_tree.Goals as goal

pub returns : goal.returns
returns c = tokens_have_one_tree
