use Rattle.std.proofs.Common.{rules}
use Rattle.typing.specs.Statements.{written_record}
use Rattle.typing.specs.View.{denoted_of}
use Rattle.resolver.proofs.OpenedRecords.{opened_goes, record_made}
use Rattle.resolver.proofs.records.opened.Goals as goal

-- it isn't accessed
pub returns-in_err-reached-clause-made : goal.returns-in_err-reached-clause-made
returns-in_err-reached-clause-made c =
    let goes = opened_goes (written_record c.args.written.now) c.args.typer.now c.named_variable.new.typer (denoted_of c.in_ok-variable.variable)
    c.in_ok-variable.ensures.made in
    search (rules, goes)

-- it is none
pub returns-in_err-open_record-clause-made : goal.returns-in_err-open_record-clause-made
returns-in_err-open_record-clause-made c =
    let goes = opened_goes (written_record c.args.written.now) c.args.typer.now c.named_variable.new.typer (denoted_of c.in_ok-variable.variable)
    c.in_ok-variable.ensures.made in
    search (rules, goes)

-- it is opened
pub returns-clause-made : goal.returns-clause-made
returns-clause-made c =
    let goes = opened_goes (written_record c.args.written.now) c.args.typer.now c.named_variable.new.typer (denoted_of c.in_ok-variable.variable)
    c.in_ok-variable.ensures.made in
    let looks = record_made c.in_ok-reached.reached (denoted_of c.in_ok-variable.variable).origin c.in_ok-reached.ensures.origin
    c.in_ok-reached.ensures.counted in
    search (rules, goes, looks)
