use Rattle.code_generator.proofs.Followed.{frames_fit}
use Rattle.code_generator.proofs.laws.frames_fit.Goals as goal

pub returns : goal.returns
returns c = frames_fit
