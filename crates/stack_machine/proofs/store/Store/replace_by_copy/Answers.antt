use Rattle.std.proofs.Common.{arith, ap, get_or, ◌∙◌, ◌≤◌, ◌+◌, ◌-◌, ◌<◌, length, take}
use Rattle.stack_machine.specs.declared.cell.Cell.TheVariants.{Undefined}
use Rattle.stack_machine.specs.Frames.{Frames}
use Rattle.stack_machine.proofs.Used.{replaced}
use Rattle.stack_machine.proofs.store.Store.replace_by_copy.Goals as goal

pub returns-clause-value : goal.returns-clause-value
returns-clause-value c =
    let s = c.args.self.now in
    let in_row : s.used ≤ length s.cells = omega arith in
    let few : c.args.count ≤ s.used = omega arith in
    let room : s.used < length s.cells + c.args.count = omega arith in
    ap (λ cells. let f : Frames = record { cells = cells; frame = s.frame; limit = s.limit; size = s.size } in f)
    (ap (take (s.used - c.args.count + 1)) c.copy.ensures ∙ replaced s.cells s.used c.args.count (get_or s.cells c.args.address Undefined) in_row few room)
