use Rattle.std.proofs.Common.{take}
use Rattle.checker_known.specs.Told.{ToldLeaves}
use Rattle.checker_known.specs.Knowledge.{kept_by}
use Rattle.checker_known.proofs.HeldLists.{said_all}
use Rattle.checker_known.proofs.knowledge.Knowledge.others.Given as goal

abbrev pub invariant-loop-one : goal.invariant-loop-one
invariant-loop-one l =
    ToldLeaves (said_all l.found.items) (said_all (take l.one-index l.self.held.items)) (kept_by l.kept (said_all l.asked.held.items))
