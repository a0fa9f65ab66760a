use Rattle.code_generator.proofs.Program.{stripped_follows}
use Rattle.code_generator.proofs.laws.stripped_follows.Goals as goal

pub returns : goal.returns
returns c = stripped_follows c.known.ensures
