use Rattle.std.proofs.Common.{◌≡◌, length}
use Rattle.checker_known.proofs.resting.Resting.of.Given as goal

abbrev pub invariant-loop-variable : goal.invariant-loop-variable
invariant-loop-variable l = length l.lists.items ≡ l._variable
