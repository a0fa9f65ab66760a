use Rattle.meaning.proofs.LeftToRight.{stops_on_the_left}
use Rattle.meaning.proofs.laws.chains_go_left_to_right.Goals as goal

pub returns : goal.returns
returns c = stops_on_the_left
