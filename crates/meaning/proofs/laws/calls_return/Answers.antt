use Rattle.meaning.proofs.Returns.{calls_return}
use Rattle.meaning.proofs.laws.calls_return.Goals as goal

pub returns : goal.returns
returns c = calls_return
