use Rattle.std.proofs.Common.{◌∙◌, ◌==◌, sym, ap, ℕ}
use Rattle.checker_rows.specs.Rows.{is_ordinal_variable}
use Rattle.checker_state.proofs.FormsOf.{links-root, monadic-root}
use Rattle.checker_state.proofs.forms.entire.Goals as goal

pub returns-in-Monadic : goal.returns-in-Monadic
returns-in-Monadic c =
    monadic-root (is_ordinal_variable c.args.rows.now) c.args.expression.now c.in-Monadic.number c.in-Monadic.operation c.in-Monadic.operand c.in-Monadic.is

pub returns-else-is_empty : goal.returns-else-is_empty
returns-else-is_empty c =
    links-root (is_ordinal_variable c.args.rows.now) c.args.expression.now c.in-Chain.first c.in-Chain.rest c.in-Chain.is
    (ap (λ (n : ℕ). n == 0) (sym c.in-Chain.rest.ok.0) ∙ sym c.if-is_empty.ensures)
