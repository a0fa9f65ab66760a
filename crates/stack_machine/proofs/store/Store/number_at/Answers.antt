use Rattle.std.proofs.Common.{arith, ap, sym, ◌∙◌, ◌≤◌, length}
use Rattle.stack_machine.specs.Frames as frames
use Rattle.stack_machine.proofs.Used.{slice_get-top}
use Rattle.stack_machine.proofs.store.Store.number_at.Goals as goal

pub returns : goal.returns
returns c =
    let s = c.args.self.now in
    let in_row : s.used ≤ length s.cells = omega arith in
    c.number.ensures ∙ ap frames.number (sym (slice_get-top s.cells s.used c.args.count in_row c.requires.some c.requires.in_use))
