use Rattle.reading.proofs.Three.{read_is_spelled}
use Rattle.reading.proofs.laws.read_is_spelled.Goals as goal

pub returns : goal.returns
returns c = read_is_spelled
