use Rattle.std.proofs.Common.{arith, ap, ◌∙◌, ◌≤◌, ◌+◌, ◌-◌, ◌<◌, length, take}
use Rattle.stack_machine.specs.declared.cell.Cell.TheVariants.{Set}
use Rattle.stack_machine.specs.Frames.{Frames}
use Rattle.stack_machine.proofs.Used.{replaced}
use Rattle.stack_machine.proofs.store.Store.replace_by_set.Goals as goal

pub returns-clause-value : goal.returns-clause-value
returns-clause-value c =
    let s = c.args.self.now in
    let in_row : s.used ≤ length s.cells = omega arith in
    let few : c.args.count ≤ s.used = omega arith in
    let room : s.used < length s.cells + c.args.count = omega arith in
    ap (λ cells. let f : Frames = record { cells = cells; frame = s.frame; limit = s.limit; size = s.size } in f)
    (ap (take (s.used - c.args.count + 1)) c.put_set.ensures ∙ replaced s.cells s.used c.args.count (Set c.args.members) in_row few room)
