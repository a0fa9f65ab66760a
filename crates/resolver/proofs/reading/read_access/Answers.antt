use Rattle.std.proofs.Common.{rules, map}
use Rattle.typing.specs.Expressions.{expression}
use Rattle.typing.specs.View.{denoted_of}
use Rattle.resolver.proofs.Readings.{accessed_goes, read_goes, read_made}
use Rattle.resolver.proofs.reading.read_access.Goals as goal

-- it may not be changed
pub returns-in_err-may_change-clause-made : goal.returns-in_err-may_change-clause-made
returns-in_err-may_change-clause-made c =
    let goes = read_goes c.args.name.now c.args.selectors.now (map expression c.args.indexes.now) c.args.typer.now c.named_variable.new.typer
    (denoted_of c.in_ok-variable.variable) c.in_ok-variable.ensures.made in
    search (rules, goes)

-- there are too many points
pub returns-in_err-point-clause-made : goal.returns-in_err-point-clause-made
returns-in_err-point-clause-made c =
    let goes = read_goes c.args.name.now c.args.selectors.now (map expression c.args.indexes.now) c.args.typer.now c.named_variable.new.typer
    (denoted_of c.in_ok-variable.variable) c.in_ok-variable.ensures.made in
    search (rules, goes)

-- it isn't accessed
pub returns-in_err-reached-clause-made : goal.returns-in_err-reached-clause-made
returns-in_err-reached-clause-made c =
    let goes = accessed_goes c.args.name.now c.args.selectors.now (map expression c.args.indexes.now) c.args.typer.now c.named_variable.new.typer
    c.may_change.new.self c.point.new.self c.in_ok-variable.variable c.in_ok-point.point c.in_ok-variable.ensures.made c.in_ok-may_change.ensures.taken
    c.in_ok-point.ensures.taken in
    search (rules, goes)

-- it isn't read
pub returns-in-Err-clause-made : goal.returns-in-Err-clause-made
returns-in-Err-clause-made c =
    let goes = accessed_goes c.args.name.now c.args.selectors.now (map expression c.args.indexes.now) c.args.typer.now c.named_variable.new.typer
    c.may_change.new.self c.point.new.self c.in_ok-variable.variable c.in_ok-point.point c.in_ok-variable.ensures.made c.in_ok-may_change.ensures.taken
    c.in_ok-point.ensures.taken in
    search (rules, goes)

-- it is read
pub returns-clause-made : goal.returns-clause-made
returns-clause-made c =
    let goes = accessed_goes c.args.name.now c.args.selectors.now (map expression c.args.indexes.now) c.args.typer.now c.named_variable.new.typer
    c.may_change.new.self c.point.new.self c.in_ok-variable.variable c.in_ok-point.point c.in_ok-variable.ensures.made c.in_ok-may_change.ensures.taken
    c.in_ok-point.ensures.taken in
    let looks = read_made c.in_ok-reached.reached (denoted_of c.in_ok-variable.variable).origin c.in-Ok.made.0 c.in_ok-point.point
    c.in-Ok.made.1 c.in_ok-reached.ensures.origin c.in_ok-reached.ensures.counted in
    search (rules, goes, looks)
