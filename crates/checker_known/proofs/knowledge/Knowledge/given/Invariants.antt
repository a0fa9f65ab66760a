use Rattle.std.proofs.Common.{◌≡◌, filter, take}
use Rattle.checker_state.specs.State.{gives}
use Rattle.checker_known.specs.Knowledge.{core, viewed}
use Rattle.checker_state.specs.State.{table_of}
use Rattle.checker_known.proofs.HeldLists.{said_all}
use Rattle.checker_known.proofs.knowledge.Knowledge.given.Given as goal

abbrev pub invariant-loop-held : goal.invariant-loop-held
invariant-loop-held l =
    said_all l.found.items ≡ filter (gives (table_of l.table) (viewed (core l.self))) (said_all (take l.held-index l.asked))
