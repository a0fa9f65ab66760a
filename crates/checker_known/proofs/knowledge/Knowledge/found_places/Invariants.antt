use Rattle.std.proofs.Common.{take}
use Rattle.checker_known.specs.Resting.{AreFound}
use Rattle.checker_known.proofs.HeldLists.{said_all}
use Rattle.checker_known.proofs.knowledge.Knowledge.found_places.Given as goal

abbrev pub invariant-loop-one : goal.invariant-loop-one
invariant-loop-one l = AreFound (said_all (take l.one-index l.list)) (said_all l.self.held.items) l.places.items
