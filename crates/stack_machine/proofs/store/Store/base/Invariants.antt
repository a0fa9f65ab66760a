use Rattle.std.proofs.Common.{◌≡◌, ◌-◌, ◌<◌, take}
use Rattle.stack_machine.specs.Frames as frames
use Rattle.stack_machine.proofs.store.Store.base.Given as goal

abbrev pub invariant-loop-link : goal.invariant-loop-link
invariant-loop-link l =
    (l.base < l.used) × (frames.base (l.level - l._link) l.base (take l.used l.self.cells) ≡ frames.base l.level l.self.frame
    (take l.used l.self.cells))
