use Rattle.std.proofs.Common.{take}
use Rattle.checker_rows.specs.Rows.{rows_touched}
use Rattle.checker_trail.specs.Trail.{Moves}
use Rattle.checker_calls.specs.Exit.{rows_behind}
use Rattle.checker_calls.proofs.exit.touch_roots.Given as goal

-- the variables so far
abbrev pub invariant-loop-root : goal.invariant-loop-root
invariant-loop-root l = Moves (rows_behind l.rows l.touches.changes (rows_touched l.rows (take l.root-index l.touches.touched))) l.fn.state l.state
