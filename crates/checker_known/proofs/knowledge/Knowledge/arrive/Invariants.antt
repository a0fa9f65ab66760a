use Rattle.std.proofs.Common.{◌≡◌, ◌++◌, map, take}
use Rattle.checker_known.specs.Told.{arrival_at, rows_changed}
use Rattle.checker_known.specs.Knowledge.{core}
use Rattle.checker_state.specs.State.{table_of}
use Rattle.checker_known.proofs.knowledge.Knowledge.arrive.Given as goal

abbrev pub invariant-loop-change : goal.invariant-loop-change
invariant-loop-change l =
    l.rows.items ≡ l.fn.rows.items ++ map (arrival_at (table_of l.table) (core l.self)) (rows_changed (take l.change-index l.changes))
