use Rattle.std.proofs.Common.{rules}
use Rattle.typed_tree.proofs.Looks.{look_procedure_call}
use Rattle.typing.specs.Statements.{declared_call}
use Rattle.resolver.proofs.calls.declared_call.Goals as goal

pub returns-then-is_function-clause-made : goal.returns-then-is_function-clause-made
unfolding declared_call
returns-then-is_function-clause-made c = search rules

pub returns-in_err-made-clause-made : goal.returns-in_err-made-clause-made
unfolding declared_call
returns-in_err-made-clause-made c = search rules

pub returns-clause-made : goal.returns-clause-made
unfolding declared_call
returns-clause-made c = search (rules, look_procedure_call)
