use Rattle.std.proofs.Common.{rules}
use Rattle.expression_resolver.proofs.Results.{no_result, no_variable, host_is}
use Rattle.expression_resolver.proofs.expressions.result_type.Goals as goal

pub returns-in_default : goal.returns-in_default
returns-in_default c = no_result c.args.place c.args.root c.args.typer.now (search rules)

pub returns-in_default-variable_at : goal.returns-in_default-variable_at
returns-in_default-variable_at c =
    no_variable c.args.place c.args.root c.args.typer.now c.in-Some.root c.in-Some.is (search rules)

pub returns : goal.returns
returns c =
    host_is c.args.place c.args.root c.args.typer.now c.in-Some.root c.in-Some-variable_at.variable c.host.result c.in-Some.is (search rules) (search rules)
