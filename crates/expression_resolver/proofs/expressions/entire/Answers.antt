use Rattle.std.proofs.Common.{rules, []}
use Rattle.typing.specs.View.{denoted_of}
use Rattle.typed_tree.specs.Accesses.{origin_by}
use Rattle.expression_resolver.proofs.Selecting.{begun_valued, entered_first}
use Rattle.expression_resolver.proofs.expressions.entire.Goals as goal

-- it isn't entered
pub returns-in_err-entered : goal.returns-in_err-entered
returns-in_err-entered c =
    let begins = entered_first (denoted_of c.in_ok-root.field-0) [] [] c.args.place c.args.lead c.args.typer.now in
    search (rules, begins)

-- its value
pub returns : goal.returns
returns c =
    let begins = entered_first (denoted_of c.in_ok-root.field-0) [] [] c.args.place c.args.lead c.args.typer.now in
    let made = begun_valued c.in_ok-entered.entered c.begun-selection.result (origin_by c.in_ok-root.root c.in_ok-root.base) c.in_ok-root.selectors.items
    c.in_ok-root.type_id c.enter.new.typer in
    search (rules, begins, made)
