use Rattle.std.proofs.Common.{◌≡◌, ℕ, ◌+◌, ◌-◌, length}
use Rattle.code_scheme.specs.Frames.{frame_at}
use Rattle.code_scheme.proofs.frame.make_room.Given as goal

abbrev pub invariant-loop-frames : goal.invariant-loop-frames
invariant-loop-frames l = (other : ℕ) → frame_at l.frames.items other ≡ frame_at l.initial.frames.items other

abbrev pub decreases-loop-frames : goal.decreases-loop-frames
decreases-loop-frames l = l.fn.block + 1 - length l.frames.items
