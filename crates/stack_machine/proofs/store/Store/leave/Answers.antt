use Rattle.std.proofs.Common.{arith, ap, sym, ◌∙◌, ◌+◌, ◌≤◌, ℕ, length, take, Ok}
use Rattle.stack_machine.specs.Frames.{Frames, Attempt}
use Rattle.stack_machine.proofs.Called.{left-used}
use Rattle.stack_machine.proofs.store.Store.leave.Goals as goal

pub returns-clause-value : goal.returns-clause-value
returns-clause-value c =
    let s = c.args.self.now in
    let back = c.in_ok-caller.caller in
    let items = c.take_along.new.self.cells in
    let in_row : s.used ≤ length s.cells = omega arith in
    let back_at : ℕ → ℕ → Attempt (Frames × ℕ) = λ frame size.
    let f : Frames = record { cells = take (frame + c.args.results) items; frame = back.frame; limit = back.limit; size = size } in Ok (f, back.place) in
    left-used s.cells items s.used s.frame s.limit s.size c.args.results c.args.count back in_row
    c.in_ok-has.ensures.within c.in_ok-has.ensures.value c.in_ok-caller.ensures.value c.take_along.ensures.cells
    ∙ ap (λ frame. back_at frame s.size) (sym c.take_along.ensures.frame) ∙ ap (back_at c.take_along.new.self.frame) (sym c.take_along.ensures.size)
