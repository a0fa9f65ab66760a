use Rattle.std.proofs.Common.{◌≡◌, take}
use Rattle.domain.specs.Numbers.{hull}
use Rattle.domain.proofs.interval.Interval.hull.Given as goal

abbrev pub invariant-loop-number : goal.invariant-loop-number
invariant-loop-number l = l.hull ≡ hull (take l.number-index l.numbers)
