use Rattle.std.proofs.Common.{map, take}
use Rattle.checker_calls.specs.ExitView.{AreTypes, said_change}
use Rattle.checker_calls.proofs.touches.all_types.Given as goal

-- so far
abbrev pub invariant-loop-change : goal.invariant-loop-change
invariant-loop-change l = AreTypes (map said_change (take l.change-index l.changes)) l.types
