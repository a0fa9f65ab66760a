use Rattle.code_generator.proofs.Followed.{errors_come}
use Rattle.code_generator.proofs.laws.errors_come.Goals as goal

pub returns : goal.returns
returns c = errors_come
