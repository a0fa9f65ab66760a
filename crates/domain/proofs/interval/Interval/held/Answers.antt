use Rattle.std.proofs.Common.{arith}
use Rattle.std.proofs.lemmas.Int.{ints, clamps}
use Rattle.domain.proofs.interval.Interval.held.Goals as goal

pub invariant_of-result : goal.invariant_of-result
invariant_of-result c =
    ((omega (arith, ints, clamps), omega (arith, ints, clamps)), (omega (arith, ints, clamps), omega (arith, ints, clamps)))
