use Rattle.std.proofs.Common.{◌≡◌, drop}
use Rattle.typing.specs.Routines.{first_waiting}
use Rattle.typing.proofs.waiting.first_waiting.Given as goal

-- none of those so far waits
abbrev pub invariant-loop-index : goal.invariant-loop-index
invariant-loop-index l = first_waiting l.waiting.entries ≡ first_waiting (drop l.index l.waiting.entries)
