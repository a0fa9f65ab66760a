use Rattle.std.proofs.Common.{take}
use Rattle.domain.specs.Numbers.{IsFirstOther}
use Rattle.domain.proofs.interval.numbers.first_other.Given as goal

abbrev pub invariant-loop-number : goal.invariant-loop-number
invariant-loop-number l = IsFirstOther l.fn.first (take l.number-index l.numbers) l.other
