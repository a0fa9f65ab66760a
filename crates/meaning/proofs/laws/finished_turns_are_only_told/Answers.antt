use Rattle.meaning.proofs.FinishedTurns.{turns_are_only_told}
use Rattle.meaning.proofs.laws.finished_turns_are_only_told.Goals as goal

pub returns : goal.returns
returns c = turns_are_only_told
