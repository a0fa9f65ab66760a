use Rattle.std.proofs.Common.{rules}
use Rattle.typing.specs.Statements.{function_target}
use Rattle.typing.specs.Steps.{assign_result, enclosing_now, heading_at, variable_at}
use Rattle.typing.proofs.typer.Typer.function_target.Goals as goal

pub returns-in_err-root : goal.returns-in_err-root
unfolding function_target enclosing_now heading_at assign_result variable_at
returns-in_err-root c = search rules

pub returns-in_err-variable : goal.returns-in_err-variable
unfolding function_target enclosing_now heading_at assign_result variable_at
returns-in_err-variable c = search rules

pub returns : goal.returns
unfolding function_target enclosing_now heading_at assign_result variable_at
returns c = search rules
