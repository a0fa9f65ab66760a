use Rattle.std.proofs.Common.{◌≡◌, map, take}
use Rattle.checker_state.specs.State.{gives, table_of}
use Rattle.checker_known.specs.Knowledge.{core, viewed}
use Rattle.checker_known.proofs.HeldLists.{said_all}
use Rattle.checker_known.proofs.knowledge.Knowledge.give.Given as goal

abbrev pub invariant-loop-one : goal.invariant-loop-one
invariant-loop-one l = l.kept.items ≡ map (gives (table_of l.table) (viewed (core l.self))) (said_all (take l.one-index l.asked))
