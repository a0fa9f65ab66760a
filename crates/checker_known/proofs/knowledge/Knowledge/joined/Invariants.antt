use Rattle.std.proofs.Common.{◌≡◌, map, take}
use Rattle.checker_known.specs.Told.{joined_at, said_at}
use Rattle.checker_known.specs.Knowledge.{core, viewed}
use Rattle.checker_state.specs.State.{table_of}
use Rattle.checker_known.proofs.knowledge.Knowledge.joined.Given as goal

abbrev pub invariant-loop-other : goal.invariant-loop-other
invariant-loop-other l =
    map said_at l.found.items ≡ map (joined_at (table_of l.table) (viewed (core l.self))) (take l.other-index l.rows)
