use Rattle.std.proofs.Common.{◌≤◌, arith, length}
use Rattle.stack_machine.proofs.Used.{row-used}
use Rattle.stack_machine.proofs.store.Store.numbers.Goals as goal

pub returns : goal.returns
returns c =
    let s = c.args.self.now in
    let in_row : s.used ≤ length s.cells = omega arith in
    let same = row-used s.cells s.used c.args.place c.args.count in_row c.requires.in_use c.requires.within in
    rw same at c.numbers.ensures
