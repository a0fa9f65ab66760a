use Rattle.meaning.proofs.Pieces.{pieces_use_turns}
use Rattle.meaning.proofs.laws.pieces_use_turns_exactly.Goals as goal

pub returns : goal.returns
returns c = pieces_use_turns
