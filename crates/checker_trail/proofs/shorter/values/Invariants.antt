use Rattle.std.proofs.Common.{◌≡◌, map, take}
use Rattle.checker_known.specs.Told.{rows_changed, said_at}
use Rattle.checker_known.specs.Knowledge.{core, viewed}
use Rattle.checker_trail.specs.Shorter.{at_row}
use Rattle.checker_trail.proofs.shorter.values.Given as goal

abbrev pub invariant-loop-change : goal.invariant-loop-change
invariant-loop-change l = map said_at l.found.items ≡ map (at_row (viewed (core l.known))) (rows_changed (take l.change-index l.changes))
