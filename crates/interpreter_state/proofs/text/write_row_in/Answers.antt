use Rattle.std.proofs.Common.{◌≡◌, ◌++◌, OnOk, List, ℕ, arith, subst}
use Rattle.interpreter_state.proofs.RowOrder.{cut}
use Rattle.interpreter_state.proofs.text.write_row_in.Goals as goal

pub returns-then-places-row : goal.returns-then-places-row
returns-then-places-row c =
    subst (λ (text : List ℕ). OnOk c.write_bytes.result (c.write_bytes.new.output.items ≡ c.args.output.now.items ++ text))
    (cut c.args.row.now c.args.places (omega (arith, c.if-places-row.true))) c.write_bytes.ensures
