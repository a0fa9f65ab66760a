use Rattle.std.proofs.Common.{take}
use Rattle.checker_trail.specs.Meets.{with_rows}
use Rattle.checker_trail.specs.Trail.{Moves}
use Rattle.checker_trail.proofs.state.State.set_rows.Given as goal

abbrev pub invariant-loop-row : goal.invariant-loop-row
invariant-loop-row l = Moves (with_rows (take l.row-index l.rows)) l.fn.self l.self
