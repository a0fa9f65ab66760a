use Rattle.typing_laws.proofs.Programs.{typing_is_lawful}
use Rattle.typing_laws.proofs.typed_programs_are_lawful.Goals as goal

pub returns : goal.returns
returns c = typing_is_lawful
