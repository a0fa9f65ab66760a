use Rattle.std.proofs.Common.{rules, ◌≡◌, false, is_some}
use Rattle.syntax_tree.specs.declared.Expr.TheViews.{out-Actual}
use Rattle.typing.specs.Expressions.{expression}
use Rattle.typing.specs.Statements as spec
use Rattle.typing.proofs.Rows.{behind_nothing}
use Rattle.typing.proofs.Written.{typing_actual}
use Rattle.expression_resolver.proofs.PassedForms.{no_width}
use Rattle.resolver.proofs.Readings.{not_variable}
use Rattle.resolver.proofs.reading.read_parameter.Goals as goal

-- it is no variable
pub returns-in_default : goal.returns-in_default
unfolding spec.read_parameter
returns-in_default c =
    let w = (out-Actual c.args.written.now).value in
    let read = typing_actual c.args.written.now in
    let free : is_some (out-Actual c.args.written.now).width ≡ false = search rules in
    let bare = no_width (expression w).first (out-Actual c.args.written.now).width free in
    let none = not_variable w c.args.typer.now c.in_default.not-Name c.in_default.not-Component in
    search (rules, read, bare, none, behind_nothing)
