use Rattle.std.proofs.Common.{take}
use Rattle.checker_known.specs.Resting.{HasAllAt}
use Rattle.checker_known.proofs.HeldLists.{said_all}
use Rattle.checker_known.proofs.knowledge.Knowledge.held_at.Given as goal

abbrev pub invariant-loop-place : goal.invariant-loop-place
invariant-loop-place l = HasAllAt (take l.place-index l.places) (said_all l.self.held.items) (said_all l.list.items)
