use Rattle.stack_machine.specs.Machine.{tables_of}
use Rattle.stack_machine.proofs.Growing.{grown}
use Rattle.stack_machine.proofs.laws.output_only_grows.Goals as goal

pub returns : goal.returns
returns c = λ code source cells budget more. grown (tables_of code) code.instructions.items source cells budget more
