use Rattle.std.proofs.Common.{map}
use Rattle.typing.specs.Expressions.{expression}
use Rattle.typing.specs.View.{denoted_of}
use Rattle.resolver.proofs.Targets.{target_made}
use Rattle.resolver.proofs.assignments.target.Goals as goal

-- a component is reached
pub returns : goal.returns
returns c =
    target_made c.args.name.now c.args.selectors.now (map expression c.args.indexes.now) c.in_ok-denotation.denotation (denoted_of c.in_ok-variable.variable)
    c.args.typer.now c.find.new.self c.target_of.new.typer c.in_ok-denotation.ensures c.in_ok-variable.ensures.made c.reach.result c.reach.new.typer
    c.reach.ensures.made c.reach.ensures.origin c.reach.ensures.counted
