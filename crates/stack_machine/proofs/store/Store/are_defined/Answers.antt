use Rattle.std.proofs.Common.{◌∙◌, ◌-◌, ◌≤◌, ap, arith, drop, length, Ok}
use Rattle.std.specs.List.{list_all}
use Rattle.stack_machine.specs.Frames.{◌>>=◌, is_defined}
use Rattle.stack_machine.specs.View.{view}
use Rattle.stack_machine.proofs.Used.{row-top, row-used}
use Rattle.stack_machine.proofs.store.Store.are_defined.Goals as goal

pub returns : goal.returns
returns c =
    let s = c.args.self.now in
    let cells = (view s).cells in
    let count = c.args.length in
    let in_row : s.used ≤ length s.cells = omega arith in
    let few : count ≤ s.used = omega (arith, c.in_ok-has.ensures.within) in
    ap Ok (c.all_defined.ensures ∙ ap (list_all is_defined) (row-used s.cells s.used count count in_row few (omega arith) ∙ row-top cells count))
    ∙ ap (λ r. r >>= λ _. Ok (list_all is_defined (drop (length cells - count) cells))) c.in_ok-has.ensures.value
