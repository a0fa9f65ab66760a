use Rattle.std.proofs.Common.{◌≡◌, ◌∙◌, ◌+◌, ◌-◌, ◌≤◌, ◌++◌, ap, arith, length, replicate, sym, take, true, Some, None}
use Rattle.std.specs.Prelude.{if◌then◌else◌, nat_le}
use Rattle.std.proofs.lemmas.Bool.{le-leb}
use Rattle.stack_machine.specs.declared.cell.Cell.TheVariants.{Undefined}
use Rattle.stack_machine.specs.View.{view}
use Rattle.stack_machine.proofs.Used.{length_used, take-undefined}
use Rattle.stack_machine.proofs.store.Store.enter.Goals as goal

pub returns-clause-value : goal.returns-clause-value
returns-clause-value c =
    let s = c.args.self.now in
    let count = c.args.variables in
    let end = s.used + count in
    let more = c.args.evaluation in
    let in_row : s.used ≤ length s.cells = omega arith in
    let within : end ≤ length s.cells = omega arith in
    let len = length_used s.cells s.used in_row in
    let fits : nat_le (length (view s).cells + count + more) s.size ≡ true = le-leb _ _ (omega (arith, len)) in
    let few : end - s.used ≡ count = omega arith in
    let cells = ap (take end) c.undefine.ensures ∙ take-undefined s.cells s.used end (omega arith) within
    ∙ ap (λ n. take s.used s.cells ++ replicate n Undefined) few in
    ap (λ yes. if yes then Some (record (view s) { cells = (view s).cells ++ replicate count Undefined; limit = length (view s).cells + count + more })
    else None) fits
    ∙ ap (λ n. Some (record (view s) { cells = (view s).cells ++ replicate count Undefined; limit = n + count + more })) len
    ∙ ap (λ cs. Some (record (view s) { cells = cs; limit = end + more })) (sym cells)
