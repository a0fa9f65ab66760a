use Rattle.reading.proofs.Three.{spelled_is_read}
use Rattle.reading.proofs.laws.spelled_is_read.Goals as goal

pub returns : goal.returns
returns c = spelled_is_read
