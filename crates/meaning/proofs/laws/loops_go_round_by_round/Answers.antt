use Rattle.meaning.proofs.Pieces.{loops_go_round}
use Rattle.meaning.proofs.laws.loops_go_round_by_round.Goals as goal

pub returns : goal.returns
returns c = loops_go_round
